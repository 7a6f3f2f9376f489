-- A replica's step shows the notice of the removal that it learns before all other marks, since a removal covers nothing.
use Rattle.std.proofs.Common.{◌≡◌, ◌∙◌, ℕ, ◌-◌, ◌==◌, nat_lt, List, [], ◌∷◌, ◌++◌, Option, Some, None, refl, sym, ap, subst, arith}
use Rattle.std.specs.List.{fold, range_with_len, cons_option}
use Rattle.fix_ante.specs.Windows.{first_of}
use Rattle.cut_core.specs.declared.effects.Effect.{Effect}
use Rattle.cut_core.specs.declared.effects.Effect.TheVariants.{Removed}
use Rattle.cut_core.specs.Agreements.{Agreement, agreement_from, count_of}
use Rattle.cut_core.specs.Effects.{effect_of}
use Rattle.cut_core.specs.Fold.{applied}
use Rattle.cut_core.specs.Map.{covered_locals}
use Rattle.cut_core.proofs.AgreeingLemmas.{applied_all_push}
use Rattle.node_rules.specs.Names.{NodeId, Entry, Mark, Event}
use Rattle.node_rules.specs.Names.marks
use Rattle.node_rules.specs.Names.whats
use Rattle.node_rules.specs.Nodes.{Node, has_slot}
use Rattle.node_rules.specs.Turns.{Turn, started, agreed, count_known, send}
use Rattle.node_rules.specs.Rules.{learned, learn, learn_next, with_seen, ask, decided}
use Rattle.node_rules.proofs.Lists.{on_test}
use Rattle.node_rules.proofs.Places.{IsTold, unsent_sites}
use Rattle.shard_node.specs.States.{ReplicaState, shard_of, covered_of}
use Rattle.shard_node.specs.Learning.{confirm, confirm_from, covered_is_durable, notice, on_learned}
use Rattle.shard_node.specs.Steps.{replica_step}
use Rattle.shard_node.proofs.Places.{Shows as ShowsAt, confirmed, noticed, promised}
use Rattle.shard_node.proofs.Walk.{replica_walk}
use Rattle.safety_marks.specs.Removals.{first_in}
use Rattle.safety_marks.proofs.Firsts.{removed_covers_none}
use Rattle.safety_marks.proofs.Notices.{Shows, shows_more, Notices, HasNoticed}
use Rattle.safety_logs.proofs.ReplicaSteps.{on_both_turns}
use Rattle.safety_marks.proofs.ReplicaTurns.{KeepsConfirmed, all_confirmed, KeepsPromised, all_promised}

-- ---- a learned entry

-- the marks so far, while the node is as it was
abbrev ShowsAll : List ℕ → Turn ReplicaState → Type 0
ShowsAll firsts t = Shows firsts t.marks

confirms_all : (firsts : List ℕ) → KeepsConfirmed (ShowsAll firsts)
confirms_all firsts = record {
  shows = λ t local position rec why w. shows_more firsts t.marks (marks.Confirm position rec) refl w;
  sends = λ t to what w. w;
}

-- what a turn shows, and what its node knows
abbrev Leaves : List ℕ → List Entry → Turn ReplicaState → Type 0
Leaves firsts known t = (t.state.base.known ≡ known) × Shows firsts t.marks

module _ (before : Agreement) (entry : Entry) (t : Turn ReplicaState) (empty : t.marks ≡ []) (more : agreed t ≡ applied before entry) where
  abbrev from : ℕ
  from = covered_locals before (shard_of t)

  abbrev u : Turn ReplicaState
  u = covered_is_durable t

  -- where it removes a shard nothing is confirmed
  none_confirmed : (shard first : ℕ) → effect_of before entry ≡ Removed shard first → (confirm_from from u).marks ≡ []
  none_confirmed shard first e =
      let covered = ap (λ (a : Agreement). a.covered) more ∙ removed_covers_none before entry shard first e in
      let same : covered_of u ≡ from = ap (count_of (shard_of t)) covered in
      let none : covered_of u - from ≡ 0 = omega (arith, same) in
      ap (λ (k : ℕ). (fold confirm u (range_with_len from k)).marks) none ∙ empty

  all_shown : ShowsAll [] (confirm_from from u) × ((confirm_from from u).state ≡ u.state)
  all_shown = all_confirmed (ShowsAll []) (confirms_all []) from u (subst (Shows []) (sym empty) (tt, refl))

  known_still : (confirm_from from u).state.base.known ≡ t.state.base.known
  known_still = ap (λ (s : Node ReplicaState). s.base.known) all_shown.1

  by_effect : (effect : Effect) → effect_of before entry ≡ effect
      → Leaves (cons_option (first_in effect) []) t.state.base.known (notice effect (confirm_from from u))
  by_effect (Removed shard first) e = (
    known_still,
    subst (λ (shown : List Mark). Shows (first ∷ []) (shown ++ marks.Notice first ∷ [])) (sym (none_confirmed shard first e)) (tt, refl),
  )
  by_effect _ e = (known_still, all_shown.0)

  after_learned : Leaves (cons_option (first_in (effect_of before entry)) []) t.state.base.known (on_learned before entry t)
  after_learned = by_effect (effect_of before entry) refl

-- ---- a step

module _ (n : Node ReplicaState) where
  after_ask : (to : NodeId) (t : Turn ReplicaState) → HasNoticed n t → HasNoticed n (ask to t)
  after_ask to t w = on_test (HasNoticed n) (has_slot t.state.base) (send to (whats.Learn (count_known t)) t) t (λ _. w) (λ _. w)

  -- in which an entry is told
  after_decided : (from : NodeId) (slot count : ℕ) (entry : Entry) → HasNoticed n (decided on_learned from slot count entry (started n))
  after_decided from slot count entry =
      let u : Turn ReplicaState = with_seen count (started n) in
      let next : Turn ReplicaState = learn_next on_learned slot entry u in
      let more = applied_all_push (agreement_from (first_of n.base.cfg.rounds n.base.cfg.table)) n.base.known entry in
      let told : HasNoticed n next =
      on_test (HasNoticed n) (slot == count_known u) (learn on_learned entry u) u
      (λ _. (Some entry, after_learned (agreed u) entry (learned entry u) refl more)) (λ _. (None, (refl, (tt, refl)))) in
      on_test (HasNoticed n) (nat_lt (count_known next) next.state.base.seen) (ask from next) next (λ _. after_ask from next told) (λ _. told)

  promises_kept : (learned : Option Entry) → KeepsPromised (Notices n learned)
  promises_kept learned = record {
    shows = λ t local position rec why w. (w.0, shows_more _ t.marks (marks.Promise position rec) refl w.1);
    sends = λ t tos what w. w;
    counts = λ t count w. w;
  }

  -- and any other
  module _ (event : Event) (none : (s : Node ReplicaState) (entry : Entry) → IsTold n event s entry → ⊥) where
    shown_untold : (s : Node ReplicaState) (shown : List Mark) (mark : Mark) → ShowsAt n event s mark → Shows [] shown → Shows [] (shown ++ mark ∷ [])
    shown_untold s shown _ (confirmed local position rec why) is = shows_more [] shown (marks.Confirm position rec) refl is
    shown_untold s shown _ (noticed first why) is = absurd (none why.learned.old why.entry why.learned.learns)
    shown_untold s shown _ (promised position rec why) is = shows_more [] shown (marks.Promise position rec) refl is

    step_untold : Notices n None (replica_step n event)
    step_untold =
        replica_walk _ n event
        (unsent_sites (Notices n None)
        (record {
          starts = (refl, (tt, refl));
          restarts = λ e. (refl, (tt, refl));
          learns = λ t entry why w. absurd (none t.state entry why);
          shows = λ t mark why w. (w.0, shown_untold t.state t.marks mark why w.1);
          stores = λ t item own why w. w;
          changes = λ t own why w. w;
        }))

pub replica_notices : (n : Node ReplicaState) (event : Event) → HasNoticed n (replica_step n event)
replica_notices n event =
    on_both_turns n event (HasNoticed n)
    (record {
      start = (None, (refl, (tt, refl)));
      decides = λ from slot count entry comes. after_decided n from slot count entry;
      promises = λ t w. (w.0, all_promised (Notices n w.0) (promises_kept n w.0) t w.1);
      others = λ none. (None, step_untold n event none);
    })
