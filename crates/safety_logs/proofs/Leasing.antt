-- A replica promises no more than is leased to its shard: a removal takes the promises back to what is covered, and each further one has a lease.
use Rattle.std.proofs.Common.{◌≡◌, ◌∙◌, ℕ, ◌+◌, ◌-◌, ◌≤◌, ◌==◌, true, nat_lt, is_some, Option, Some, None, refl, sym, ap, subst, arith}
use Rattle.std.specs.List.{slice_get}
use Rattle.std.proofs.lemmas.Bool.{eqb-true}
use Rattle.fix_ante.specs.Windows.{first_of}
use Rattle.cut_core.specs.declared.effects.Effect.{Effect}
use Rattle.cut_core.specs.declared.effects.Effect.TheVariants.{Still, Covered, Opened, Granted, Removed, Void}
use Rattle.cut_core.specs.Agreements.{Agreement, agreement_from}
use Rattle.cut_core.specs.Consistency.{IsConsistent}
use Rattle.cut_core.specs.Effects.{effect_of}
use Rattle.cut_core.specs.Fold.{applied}
use Rattle.cut_core.specs.Map.{leased, covered_locals}
use Rattle.cut_core.proofs.AgreeingLemmas.{applied_all_push}
use Rattle.msg_wire.specs.Nodes.{is_primary, number_of}
use Rattle.msg_wire.specs.Valid.{IsValidEvent}
use Rattle.node_rules.specs.Names.{NodeId, Entry, Record, Item, Event}
use Rattle.node_rules.specs.Names.whats
use Rattle.node_rules.specs.Nodes.{Node, Base, agreed_by, has_slot, knowing}
use Rattle.node_rules.specs.Turns.{Turn, started, me_of, own_of, agreed, count_known, put_own}
use Rattle.node_rules.specs.Rules.{learned, learn, learn_next, with_seen, ask, decided}
use Rattle.node_rules.specs.Sound.{IsBase}
use Rattle.node_rules.proofs.Kept.{told_valid}
use Rattle.node_rules.proofs.Limits.{base_knowing}
use Rattle.node_rules.proofs.Lists.{on_test, on_fold}
use Rattle.node_rules.proofs.Places.{Comes, IsTold, unshown_sites}
use Rattle.shard_node.specs.States.{ReplicaState, shard_of, log_of, with_promised}
use Rattle.shard_node.specs.Learning.{confirm_from, covered_is_durable, notice, on_learned}
use Rattle.shard_node.specs.Promises.{lease_at, to_promise, promise_record, promise, promise_some, promise_all}
use Rattle.shard_node.specs.Steps.{replica_step}
use Rattle.shard_node.proofs.Places.{Stores, appends, copied, fills, Changes, holds, covers, cuts, promises_on}
use Rattle.shard_node.proofs.Walk.{replica_walk}
use Rattle.safety_logs.proofs.Leases.{leases, base_consistent, covered_leased, unless_removed}
use Rattle.safety_logs.proofs.ReplicaSteps.{confirmed, taken, on_both}

-- no more is promised than is leased, and what is known is consistent
abbrev pub Leased : Node ReplicaState → Type 0
Leased s = (s.own.promised ≤ leases (agreed_by s.base) (number_of s.base.me)) × IsConsistent (agreed_by s.base)

abbrev OfTurn : Turn ReplicaState → Type 0
OfTurn t = Leased t.state

has_lease : (b : Base) (local : ℕ) → IsConsistent (agreed_by b) → is_some (leased (agreed_by b) (number_of b.me) local) ≡ true
    → local + 1 ≤ leases (agreed_by b) (number_of b.me)
has_lease b local is lease = omega (arith, (is.leases (number_of b.me) local).0 lease)

-- ---- a learned entry

noticed : (effect : Effect) (t : Turn ReplicaState) → IsConsistent (agreed t)
    → (own_of t).promised ≤ leases (agreed t) (shard_of t) → OfTurn (notice effect t)
noticed (Removed gone first) t next within = (covered_leased (agreed t) (shard_of t), next)
noticed Still t next within = (within, next)
noticed (Covered rounds) t next within = (within, next)
noticed (Opened window) t next within = (within, next)
noticed (Granted window) t next within = (within, next)
noticed (Void reason) t next within = (within, next)

notice_removed : (effect : Effect) (gone first : ℕ) (t : Turn ReplicaState) → effect ≡ Removed gone first → IsConsistent (agreed t) → OfTurn (notice effect t)
notice_removed effect gone first t e next = subst (λ (x : Effect). OfTurn (notice x t)) (sym e) (covered_leased (agreed t) (shard_of t), next)

module _ (before : Agreement) (entry : Entry) (is : IsConsistent before) where
  after_notice : (t : Turn ReplicaState) → IsConsistent (agreed t) → agreed t ≡ applied before entry → (own_of t).promised ≤ leases before (shard_of t)
      → OfTurn (notice (effect_of before entry) t)
  after_notice t next more within =
      unless_removed before entry (shard_of t) is (subst IsConsistent more next) (effect_of before entry) refl (OfTurn (notice (effect_of before entry) t))
      (λ gone first e. notice_removed (effect_of before entry) gone first t e next)
      (λ grown. noticed (effect_of before entry) t next
      (subst (λ (a : Agreement). (own_of t).promised ≤ leases a (shard_of t)) (sym more) (omega (arith, within, grown))))

  after_learned : (t : Turn ReplicaState) → IsConsistent (agreed t) → agreed t ≡ applied before entry → (own_of t).promised ≤ leases before (shard_of t)
      → OfTurn (on_learned before entry t)
  after_learned t next more within =
      let from : ℕ = covered_locals before (shard_of t) in
      let u : Turn ReplicaState = confirm_from from (covered_is_durable t) in
      let same : u.state ≡ (covered_is_durable t).state =
      confirmed (λ (s : Node ReplicaState). s ≡ (covered_is_durable t).state) from (covered_is_durable t) refl in
      after_notice u (subst (λ (s : Node ReplicaState). IsConsistent (agreed_by s.base)) (sym same) next)
      (ap (λ (s : Node ReplicaState). agreed_by s.base) same ∙ more)
      (subst (λ (s : Node ReplicaState). s.own.promised ≤ leases before (number_of s.base.me)) (sym same) within)

after_ask : (to : NodeId) (t : Turn ReplicaState) → OfTurn t → OfTurn (ask to t)
after_ask to t w = on_test OfTurn (has_slot t.state.base) _ t (λ _. w) (λ _. w)

module _ (n : Node ReplicaState) (event : Event) (valid : IsValidEvent event) (base : IsBase n.base) (start : Leased n) where
  after_decided : (from : NodeId) (slot count : ℕ) (entry : Entry) → Comes n event from (whats.Decided slot count entry)
      → OfTurn (decided on_learned from slot count entry (started n))
  after_decided from slot count entry comes =
      let u : Turn ReplicaState = with_seen count (started n) in
      let next : Turn ReplicaState = learn_next on_learned slot entry u in
      let told : OfTurn next =
      on_test OfTurn (slot == count_known u) (learn on_learned entry u) u
      (λ is_next.
      let here : IsTold n event n entry =
      record { from = from; count = count; comes = subst (λ (k : ℕ). Comes n event from (whats.Decided k count entry)) (eqb-true _ _ is_next) comes } in
      let fits = told_valid n event n entry here valid in
      after_learned (agreed u) entry start.1 (learned entry u) (base_consistent (knowing entry n.base) (base_knowing entry n.base fits.0 fits.1 base))
      (applied_all_push (agreement_from (first_of n.base.cfg.rounds n.base.cfg.table)) n.base.known entry) start.0)
      (λ _. start) in
      on_test OfTurn (nat_lt (count_known next) next.state.base.seen) (ask from next) next (λ _. after_ask from next told) (λ _. told)

-- ---- promises

-- of turns whose node has this base
abbrev At : Base → Turn ReplicaState → Type 0
At b t = (t.state.base ≡ b) × ((own_of t).promised ≤ leases (agreed_by b) (number_of b.me))

promised_at : (b : Base) (position : Option ℕ) (rec : Option Record) (local : ℕ) (t : Turn ReplicaState) → t.state.base ≡ b
    → local + 1 ≤ leases (agreed_by b) (number_of b.me)
    → At b (put_own (with_promised (local + 1) (own_of t)) (promise_record position rec local t))
promised_at b (Some position) (Some rec) local t same within = (same, within)
promised_at b (Some position) None local t same within = (same, within)
promised_at b None rec local t same within = (same, within)

after_promises : (t : Turn ReplicaState) → OfTurn t → OfTurn (promise_all t)
after_promises t w =
    let b : Base = t.state.base in
    let free = λ (l : ℕ). is_some (lease_at t l) in
    on_test OfTurn (is_primary (me_of t)) (promise_some t) t
    (λ _.
    let count : ℕ = (own_of t).durable - (own_of t).promised in
    let all : At b (promise_some t) =
    on_fold (At b) promise (to_promise t) t
    (λ u i local at is.
    let one = taken free (own_of t).promised count ((own_of t).promised + count) i local (omega arith) at in
    promised_at b (lease_at u local) (slice_get (log_of u) local) local u is.0 (has_lease b local w.1 one.passes))
    (refl, w.0) in (
      subst (λ (c : Base). (own_of (promise_some t)).promised ≤ leases (agreed_by c) (number_of c.me)) (sym all.0) all.1,
      subst (λ (c : Base). IsConsistent (agreed_by c)) (sym all.0) w.1,
    ))
    (λ _. w)

-- ---- a step in which no entry is told

module _ (n : Node ReplicaState) (event : Event) (none : (s : Node ReplicaState) (entry : Entry) → IsTold n event s entry → ⊥) where
  stored : (s : Node ReplicaState) (item : Item) (own : ReplicaState) → Stores n event s item own → Leased s
      → (own.promised ≤ leases (agreed_by s.base) (number_of s.base.me)) × IsConsistent (agreed_by s.base)
  stored s _ _ (appends from first number body comes there low room expected) w = w
  stored s _ _ (copied from rec comes room) w = w
  stored s _ _ (fills from wanted comes there short) w = w

  changed : (s : Node ReplicaState) (own : ReplicaState) → Changes n event s own → Leased s
      → (own.promised ≤ leases (agreed_by s.base) (number_of s.base.me)) × IsConsistent (agreed_by s.base)
  changed s _ (holds from len comes) w = w
  changed s _ (covers before entry told) w = absurd (none told.old entry told.learns)
  changed s _ (cuts first why) w = absurd (none why.learned.old why.entry why.learned.learns)
  changed s _ (promises_on durable primary free) w = (has_lease s.base s.own.promised w.1 free, w.1)

  step_untold : Leased n → Leased (replica_step n event).state
  step_untold start =
      replica_walk _ n event
      (unshown_sites OfTurn
      (record {
        starts = start;
        restarts = λ e. (covered_leased (agreed_by n.base) (number_of n.base.me), start.1);
        learns = λ t entry why w. absurd (none t.state entry why);
        stores = λ t item own why w. stored t.state item own why w;
        changes = λ t own why w. changed t.state own why w;
      }))

-- ---- any step

pub step_leased : (n : Node ReplicaState) (event : Event) → IsValidEvent event → IsBase n.base → Leased n → Leased (replica_step n event).state
step_leased n event valid base start =
    on_both n event Leased
    (record {
      start = start;
      decides = λ from slot count entry comes. after_decided n event valid base start from slot count entry comes;
      promises = after_promises;
      others = λ none. step_untold n event none start;
    })
