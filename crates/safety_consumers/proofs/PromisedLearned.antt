-- A learned entry leaves a primary promises of before alone, each where it is leased still: a removal takes back all but the covered locals.
use Rattle.std.proofs.Common.{◌≡◌, ◌∙◌, ℕ, ◌+◌, ◌<◌, ◌≤◌, ◌==◌, nat_lt, [], ◌∷◌, Option, Some, None, refl, sym, ap, subst, arith}
use Rattle.std.proofs.lemmas.Bool.{eqb-true}
use Rattle.std.proofs.lemmas.Option.{slice_get_within, same_Some}
use Rattle.fix_ante.specs.declared.spots.Owner.{Owner}
use Rattle.fix_ante.specs.Windows.{Window, first_of}
use Rattle.cut_core.specs.declared.effects.Effect.{Effect}
use Rattle.cut_core.specs.declared.effects.Effect.TheVariants.{Removed, Opened, Covered}
use Rattle.cut_core.specs.declared.effects.Reason.{Reason}
use Rattle.cut_core.specs.Agreements.{Agreement, agreement_from, count_of, is_last_round}
use Rattle.cut_core.specs.Consistency.{IsConsistent}
use Rattle.cut_core.specs.Effects.{cut_effect, effect_where_fit, void_or, effect_of}
use Rattle.cut_core.specs.Fold.{after_entry, unless_void, applied}
use Rattle.cut_core.specs.Map.{map_of, mapped, located, leased, covered_locals}
use Rattle.cut_core.specs.MapsAgree.{IsBelowFirst}
use Rattle.cut_core.specs.Reasons.{fault_of}
use Rattle.cut_core.proofs.AgreeingLemmas.{mapped_applied, located_applied_all, applied_all_push}
use Rattle.cut_core.proofs.Finding.{dense_found}
use Rattle.cut_core.proofs.Parts.{some_value, mapped_covered}
use Rattle.msg_wire.specs.Nodes.{number_of}
use Rattle.msg_wire.specs.Valid.{IsValidEvent}
use Rattle.node_rules.specs.Names.{NodeId, Entry, Event}
use Rattle.node_rules.specs.Names.entries
use Rattle.node_rules.specs.Names.whats
use Rattle.node_rules.specs.Nodes.{Node, agreed_by, knowing}
use Rattle.node_rules.specs.Turns.{Turn, started, me_of, own_of, agreed, count_known}
use Rattle.node_rules.specs.Rules.{learned, learn, learn_next, with_seen, ask, decided}
use Rattle.node_rules.specs.Sound.{IsBase}
use Rattle.node_rules.proofs.Kept.{told_valid}
use Rattle.node_rules.proofs.Limits.{base_knowing}
use Rattle.node_rules.proofs.Lists.{on_test}
use Rattle.node_rules.proofs.Places.{Comes, IsTold}
use Rattle.shard_node.specs.States.{ReplicaState, shard_of, covered_of}
use Rattle.shard_node.specs.Learning.{confirm_from, covered_is_durable, notice, on_learned}
use Rattle.shard_node.specs.Steps.{handle}
use Rattle.safety_logs.proofs.Leases.{leases, base_consistent}
use Rattle.safety_logs.proofs.ReplicaSteps.{confirmed}
use Rattle.safety_consumers.proofs.PromisedRules.{Has, after_ask, handled}

-- ---- what a removal covers

cut_removes_none : (a : Agreement) (granted : Option Window) (gone first : ℕ) → cut_effect a granted ≡ Removed gone first → ⊥
cut_removes_none a None gone first e = absurd (cc)
cut_removes_none a (Some window) gone first e =
    on_test (λ effect. effect ≡ Removed gone first → ⊥) (is_last_round a) (Opened window.number) (Covered (a.rounds + 1)) (λ _ other. absurd (cc))
    (λ _ other. absurd (cc)) e

covers_none : (a : Agreement) (entry : Entry) (fault : Option Reason) (gone first : ℕ) → void_or fault (effect_where_fit a entry) ≡ Removed gone first
    → (unless_void fault a (after_entry a entry)).covered ≡ a.covered
covers_none a entry (Some reason) gone first e = refl
covers_none a entries.Nothing None gone first e = refl
covers_none a (entries.Cut window round) None gone first e = absurd (cut_removes_none a a.granted gone first e)
covers_none a (entries.Table after rounds rows) None gone first e = refl
covers_none a (entries.Remove window shard) None gone first e = refl

removal_covers_none : (a : Agreement) (entry : Entry) (gone first : ℕ) → effect_of a entry ≡ Removed gone first → (applied a entry).covered ≡ a.covered
removal_covers_none a entry gone first e = covers_none a entry (fault_of a entry) gone first e

-- ---- leases with an entry more

module _ (a : Agreement) (entry : Entry) (shard : ℕ) (is : IsConsistent a) (next : IsConsistent (applied a entry)) where
  abbrev owner : ℕ → Owner
  owner local = record { shard = shard; local = local }

  -- where the owner of its position stays
  lease_back : (local was position : ℕ) → mapped a was ≡ Some (owner local) → mapped (applied a entry) was ≡ mapped a was
      → leased (applied a entry) shard local ≡ Some position → leased a shard local ≡ Some position
  lease_back local was position at same lease =
      let later : leased (applied a entry) shard local ≡ Some was = (next.places shard local was).1 (same ∙ at) in
      let one : was ≡ position = same_Some was position (sym later ∙ lease) in
      (is.places shard local position).1 (subst (λ p. mapped a p ≡ Some (owner local)) one at)

  -- of an entry that moves nothing
  unmoved_lease : ((p : ℕ) → IsBelowFirst (effect_of a entry) p) → (local position : ℕ) → local < leases a shard
      → leased (applied a entry) shard local ≡ Some position → leased a shard local ≡ Some position
  unmoved_lease below local position within lease =
      let was = some_value (leased a shard local) ((is.leases shard local).1 within) in
      let at = (is.places shard local was.0).0 was.1 in
      let inside = slice_get_within (map_of a) was.0 (owner local) at in
      lease_back local was.0 position at (mapped_applied a entry was.0 is.sound inside (below was.0)) lease

  -- of a covered local
  covered_lease : (local position : ℕ) → local < covered_locals a shard → leased (applied a entry) shard local ≡ Some position
      → leased a shard local ≡ Some position
  covered_lease local position within lease =
      let was = dense_found a.covered shard local (is.sound.dense shard) within in
      let inside = slice_get_within a.covered was.0 (owner local) was.1 in
      let stays = located_applied_all a (entry ∷ []) was.0 inside in
      let before : mapped a was.0 ≡ located a was.0 = mapped_covered a was.0 inside in
      let after : mapped (applied a entry) was.0 ≡ located (applied a entry) was.0 = mapped_covered (applied a entry) was.0 stays.0 in
      lease_back local was.0 position (before ∙ was.1) (after ∙ (stays.1 ∙ sym before)) lease

-- ---- what a step has promised before it promises on

module _ (n : Node ReplicaState) where
  -- as far as it has promised, each local was promised before, and leased at its position
  abbrev pub IsOld : ℕ → Agreement → NodeId → Type 0
  IsOld promised a me =
      (me ≡ n.base.me) × ((local position : ℕ) → local < promised → leased a (number_of n.base.me) local ≡ Some position
      → (local < n.own.promised) × (leased (agreed_by n.base) (number_of n.base.me) local ≡ Some position))

  pub old_itself : Has IsOld n
  old_itself = (refl, λ local position below lease. (below, lease))

  module _ (event : Event) (valid : IsValidEvent event) (base : IsBase n.base)
      (are_leased : n.own.promised ≤ leases (agreed_by n.base) (number_of n.base.me))
      (cover : covered_locals (agreed_by n.base) (number_of n.base.me) ≤ n.own.promised) where
    abbrev before : Agreement
    before = agreed_by n.base

    abbrev me : ℕ
    me = number_of n.base.me

    -- a turn in which an entry was learned, and nothing promised or taken back yet
    record HasLearned (entry : Entry) (t : Turn ReplicaState) : Type 0 where
      pub next : IsConsistent (applied before entry)
      pub agrees : agreed t ≡ applied before entry
      pub promised : (own_of t).promised ≡ n.own.promised
      pub name : me_of t ≡ n.base.me

    after_notice : (entry : Entry) (effect : Effect) (t : Turn ReplicaState) → effect_of before entry ≡ effect → HasLearned entry t
        → Has IsOld (notice effect t).state
    after_notice entry (Removed gone first) t has is = (
      is.name,
      λ local position below lease.
          let here : covered_of t ≡ covered_locals before me =
          ap (λ (x : NodeId). covered_locals (agreed t) (number_of x)) is.name
          ∙ (ap (λ (a : Agreement). covered_locals a me) is.agrees ∙ ap (count_of me) (removal_covers_none before entry gone first has)) in (
            omega (arith, below, here, cover),
            covered_lease before entry me (base_consistent n.base base) is.next local position (omega (arith, below, here))
                (subst (λ (a : Agreement). leased a me local ≡ Some position) is.agrees lease),
          ),
    )
    after_notice entry effect t has is = (
      is.name,
      λ local position below lease. (
        omega (arith, below, is.promised),
        unmoved_lease before entry me (base_consistent n.base base) is.next (λ p. subst (λ (x : Effect). IsBelowFirst x p) (sym has) tt) local position
            (omega (arith, below, is.promised, are_leased)) (subst (λ (a : Agreement). leased a me local ≡ Some position) is.agrees lease),
      ),
    )

    after_learned : (entry : Entry) (t : Turn ReplicaState) → HasLearned entry t → Has IsOld (on_learned before entry t).state
    after_learned entry t is =
        let from : ℕ = covered_locals before (shard_of t) in
        let u : Turn ReplicaState = confirm_from from (covered_is_durable t) in
        let same : u.state ≡ (covered_is_durable t).state =
        confirmed (λ (s : Node ReplicaState). s ≡ (covered_is_durable t).state) from (covered_is_durable t) refl in
        after_notice entry (effect_of before entry) u refl
        (record {
          next = is.next;
          agrees = ap (λ (s : Node ReplicaState). agreed_by s.base) same ∙ is.agrees;
          promised = ap (λ (s : Node ReplicaState). s.own.promised) same ∙ is.promised;
          name = ap (λ (s : Node ReplicaState). s.base.me) same ∙ is.name;
        })

    after_decided : (from : NodeId) (slot count : ℕ) (entry : Entry) → Comes n event from (whats.Decided slot count entry)
        → Has IsOld (decided on_learned from slot count entry (started n)).state
    after_decided from slot count entry comes =
        let Old : Turn ReplicaState → Type 0 = λ t. Has IsOld t.state in
        let u : Turn ReplicaState = with_seen count (started n) in
        let next : Turn ReplicaState = learn_next on_learned slot entry u in
        let told : Old next =
        on_test Old (slot == count_known u) (learn on_learned entry u) u
        (λ is_next.
        let here : IsTold n event n entry =
        record { from = from; count = count; comes = subst (λ (k : ℕ). Comes n event from (whats.Decided k count entry)) (eqb-true _ _ is_next) comes } in
        let fits = told_valid n event n entry here valid in
        let more = applied_all_push (agreement_from (first_of n.base.cfg.rounds n.base.cfg.table)) n.base.known entry in
        after_learned entry (learned entry u)
        (record {
          next = subst IsConsistent more (base_consistent (knowing entry n.base) (base_knowing entry n.base fits.0 fits.1 base));
          agrees = more;
          promised = refl;
          name = refl;
        }))
        (λ _. old_itself) in
        on_test Old (nat_lt (count_known next) next.state.base.seen) (ask from next) next (λ _. after_ask IsOld from next told) (λ _. told)

    pub handled_old : Has IsOld (handle event (started n)).state
    handled_old = handled IsOld n event after_decided old_itself
