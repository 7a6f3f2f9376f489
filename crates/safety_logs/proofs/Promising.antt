-- What a replica knows to be covered it takes for durable, and it promises no more than that.
use Rattle.std.proofs.Common.{◌≡◌, ℕ, ◌+◌, ◌-◌, ◌≤◌, ◌==◌, nat_lt, is_some, Option, Some, None, refl, arith}
use Rattle.std.specs.List.{slice_get}
use Rattle.cut_core.specs.declared.effects.Effect.{Effect}
use Rattle.cut_core.specs.declared.effects.Effect.TheVariants.{Removed}
use Rattle.cut_core.specs.Agreements.{Agreement}
use Rattle.cut_core.specs.Effects.{effect_of}
use Rattle.cut_core.specs.Map.{covered_locals}
use Rattle.msg_wire.specs.Nodes.{is_primary, number_of}
use Rattle.node_rules.specs.Names.{NodeId, Entry, Record, Item, Event}
use Rattle.node_rules.specs.Nodes.{Node, agreed_by, has_slot}
use Rattle.node_rules.specs.Turns.{Turn, started, me_of, own_of, agreed, count_known, put_own}
use Rattle.node_rules.specs.Rules.{learned, learn, learn_next, with_seen, ask, decided}
use Rattle.node_rules.proofs.Lists.{on_test, on_fold}
use Rattle.node_rules.proofs.Places.{IsTold, unshown_sites}
use Rattle.shard_node.specs.States.{ReplicaState, shard_of, log_of, with_promised}
use Rattle.shard_node.specs.Learning.{confirm_from, covered_is_durable, notice, on_learned}
use Rattle.shard_node.specs.Promises.{lease_at, to_promise, promise_record, promise, promise_some, promise_all}
use Rattle.shard_node.specs.Steps.{replica_step}
use Rattle.shard_node.proofs.Places.{Stores, appends, copied, fills, Changes, holds, covers, cuts, promises_on}
use Rattle.shard_node.proofs.Walk.{replica_walk}
use Rattle.safety_logs.proofs.ReplicaSteps.{confirmed, taken, on_both}

-- what is covered is durable, and no more is promised than is durable
abbrev pub Promises : Node ReplicaState → Type 0
Promises s = (covered_locals (agreed_by s.base) (number_of s.base.me) ≤ s.own.durable) × (s.own.promised ≤ s.own.durable)

abbrev OfTurn : Turn ReplicaState → Type 0
OfTurn t = Promises t.state

-- ---- a learned entry

noticed : (effect : Effect) (t : Turn ReplicaState) → OfTurn t → OfTurn (notice effect t)
noticed (Removed shard first) t w = (w.0, w.0)
noticed _ t w = w

-- before it no more is promised than is durable
after_learned : (before : Agreement) (entry : Entry) (t : Turn ReplicaState) → (own_of t).promised ≤ (own_of t).durable → OfTurn (on_learned before entry t)
after_learned before entry t within =
    noticed (effect_of before entry) (confirm_from (covered_locals before (shard_of t)) (covered_is_durable t))
    (confirmed Promises (covered_locals before (shard_of t)) (covered_is_durable t) (omega arith, omega (arith, within)))

after_ask : (to : NodeId) (t : Turn ReplicaState) → OfTurn t → OfTurn (ask to t)
after_ask to t w = on_test OfTurn (has_slot t.state.base) _ t (λ _. w) (λ _. w)

after_decided : (from : NodeId) (slot count : ℕ) (entry : Entry) (t : Turn ReplicaState) → OfTurn t → OfTurn (decided on_learned from slot count entry t)
after_decided from slot count entry t w =
    let u : Turn ReplicaState = with_seen count t in
    let next : Turn ReplicaState = learn_next on_learned slot entry u in
    let told : OfTurn next =
    on_test OfTurn (slot == count_known u) (learn on_learned entry u) u (λ _. after_learned (agreed u) entry (learned entry u) w.1) (λ _. w) in
    on_test OfTurn (nat_lt (count_known next) next.state.base.seen) (ask from next) next (λ _. after_ask from next told) (λ _. told)

-- ---- promises, which end at what is durable

promised_at : (position : Option ℕ) (rec : Option Record) (local : ℕ) (t : Turn ReplicaState) → OfTurn t → local + 1 ≤ (own_of t).durable
    → OfTurn (put_own (with_promised (local + 1) (own_of t)) (promise_record position rec local t))
promised_at (Some position) (Some rec) local t w within = (w.0, within)
promised_at (Some position) None local t w within = (w.0, within)
promised_at None rec local t w within = (w.0, within)

-- of turns at which so much is durable
abbrev Upto : ℕ → Turn ReplicaState → Type 0
Upto durable t = OfTurn t × ((own_of t).durable ≡ durable)

after_promises : (t : Turn ReplicaState) → OfTurn t → OfTurn (promise_all t)
after_promises t w =
    on_test OfTurn (is_primary (me_of t)) (promise_some t) t
    (λ _.
    (on_fold (Upto (own_of t).durable) promise (to_promise t) t
    (λ u i local at is.
    let below =
    (taken (λ l. is_some (lease_at t l)) (own_of t).promised ((own_of t).durable - (own_of t).promised) (own_of t).durable i local
    (omega (arith, w.1)) at).below in
    (promised_at (lease_at u local) (slice_get (log_of u) local) local u is.0 (omega (arith, below, is.1)), is.1))
    (w, refl)).0)
    (λ _. w)

-- ---- a step in which no entry is told

module _ (n : Node ReplicaState) (event : Event) (none : (s : Node ReplicaState) (entry : Entry) → IsTold n event s entry → ⊥) where
  stored : (s : Node ReplicaState) (item : Item) (own : ReplicaState) → Stores n event s item own → Promises s
      → (covered_locals (agreed_by s.base) (number_of s.base.me) ≤ own.durable) × (own.promised ≤ own.durable)
  stored s _ _ (appends from first number body comes there low room expected) w = w
  stored s _ _ (copied from rec comes room) w = w
  stored s _ _ (fills from wanted comes there short) w = w

  changed : (s : Node ReplicaState) (own : ReplicaState) → Changes n event s own → Promises s
      → (covered_locals (agreed_by s.base) (number_of s.base.me) ≤ own.durable) × (own.promised ≤ own.durable)
  changed s _ (holds from len comes) w = (omega (arith, w.0), omega (arith, w.1))
  changed s _ (covers before entry told) w = absurd (none told.old entry told.learns)
  changed s _ (cuts first why) w = absurd (none why.learned.old why.entry why.learned.learns)
  changed s _ (promises_on durable primary free) w = (w.0, omega (arith, durable))

  step_untold : Promises n → Promises (replica_step n event).state
  step_untold start =
      replica_walk _ n event
      (unshown_sites OfTurn
      (record {
        starts = start;
        restarts = λ e. (omega arith, omega arith);
        learns = λ t entry why w. absurd (none t.state entry why);
        stores = λ t item own why w. stored t.state item own why w;
        changes = λ t own why w. changed t.state own why w;
      }))

-- ---- any step

pub step_promises : (n : Node ReplicaState) (event : Event) → Promises n → Promises (replica_step n event).state
step_promises n event start =
    on_both n event Promises
    (record {
      start = start;
      decides = λ from slot count entry comes. after_decided from slot count entry (started n) start;
      promises = after_promises;
      others = λ none. step_untold n event none start;
    })
