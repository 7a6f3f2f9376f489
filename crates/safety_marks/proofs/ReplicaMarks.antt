-- What a replica's marks tell of it: a confirmation of a covered local at its place, a promise of a durable one at its lease, each with its log's record.
use Rattle.std.proofs.Common.{◌≡◌, ℕ, ◌<◌, ◌≤◌, ◌==◌, true, nat_lt, List, length, Some, arith}
use Rattle.std.specs.Prelude.{min}
use Rattle.std.specs.List.{AllByRecursion, slice_get}
use Rattle.cut_core.specs.declared.effects.Effect.{Effect}
use Rattle.cut_core.specs.declared.effects.Effect.TheVariants.{Removed}
use Rattle.cut_core.specs.Agreements.{Agreement}
use Rattle.cut_core.specs.Effects.{effect_of}
use Rattle.cut_core.specs.Map.{covered_locals, placed, leased}
use Rattle.msg_wire.specs.Nodes.{is_primary, number_of}
use Rattle.node_rules.specs.Names.{NodeId, Entry, Record, Item, Mark, Event}
use Rattle.node_rules.specs.Names.marks
use Rattle.node_rules.specs.Names.whats
use Rattle.node_rules.specs.Nodes.{Node, agreed_by, has_slot}
use Rattle.node_rules.specs.Turns.{Turn, started, me_of, own_of, agreed, count_known, send}
use Rattle.node_rules.specs.Rules.{learned, learn, learn_next, with_seen, ask, decided}
use Rattle.node_rules.proofs.Lists.{on_test, all_push, all_weaken}
use Rattle.node_rules.proofs.Places.{unsent_sites}
use Rattle.shard_node.specs.States.{ReplicaState, shard_of, log_of, durable_to}
use Rattle.shard_node.specs.Learning.{confirm_from, covered_is_durable, notice, on_learned}
use Rattle.shard_node.specs.Steps.{replica_step}
use Rattle.shard_node.proofs.Places.{Shows, confirmed, noticed, promised, Stores, appends, copied, fills, Changes, holds, covers, cuts, promises_on}
use Rattle.shard_node.proofs.Walk.{replica_walk}
use Rattle.runs.specs.Marks.{IsPrefix}
use Rattle.safety_frame.proofs.Lists.{begins_itself, begins_more, index_stays}
use Rattle.safety_marks.proofs.Told.{IsUntold}
use Rattle.safety_logs.proofs.ReplicaSteps.{on_both_turns}
use Rattle.safety_marks.proofs.ReplicaTurns.{KeepsConfirmed, all_confirmed, KeepsPromised, all_promised}

-- ---- a mark and its local

-- the local is covered, with this place and record
pub record ConfirmsLocal (a : Agreement) (shard : ℕ) (log : List Record) (position : ℕ) (rec : Record) : Type 0 where
  pub local : ℕ
  pub covered : local < covered_locals a shard
  pub place : placed a shard local ≡ Some position
  pub at : slice_get log local ≡ Some rec

-- the local is durable at a primary, with this lease and record
pub record PromisesLocal (a : Agreement) (me : NodeId) (durable : ℕ) (log : List Record) (position : ℕ) (rec : Record) : Type 0 where
  pub local : ℕ
  pub primary : is_primary me ≡ true
  pub below : local < durable
  pub lease : leased a (number_of me) local ≡ Some position
  pub at : slice_get log local ≡ Some rec

abbrev pub TellsLocal : Agreement → NodeId → ℕ → List Record → Mark → Type 0
TellsLocal a me durable log (marks.Confirm position rec) = ConfirmsLocal a (number_of me) log position rec
TellsLocal a me durable log (marks.Promise position rec) = PromisesLocal a me durable log position rec
TellsLocal a me durable log (marks.Apply position rec) = ⊥
TellsLocal a me durable log _ = Unit {0}

-- as more is durable and a log grows
tells_more : (a : Agreement) (me : NodeId) (durable later : ℕ) (log longer : List Record) → durable ≤ later → IsPrefix log longer → (mark : Mark)
    → TellsLocal a me durable log mark → TellsLocal a me later longer mark
tells_more a me durable later log longer more p (marks.Confirm position rec) is =
    record { local = is.local; covered = is.covered; place = is.place; at = index_stays log longer is.local rec p is.at }
tells_more a me durable later log longer more p (marks.Promise position rec) is = record {
  local = is.local;
  primary = is.primary;
  below = omega (arith, is.below, more);
  lease = is.lease;
  at = index_stays log longer is.local rec p is.at;
}
tells_more a me durable later log longer more p (marks.Apply position rec) is = absurd is
tells_more a me durable later log longer more p _ is = tt

-- ---- a turn

abbrev pub TellsOf : Node ReplicaState → Mark → Type 0
TellsOf s = TellsLocal (agreed_by s.base) s.base.me s.own.durable s.own.log

abbrev AllTell : Turn ReplicaState → Type 0
AllTell t = AllByRecursion (TellsLocal (agreed t) (me_of t) (own_of t).durable (log_of t)) t.marks

confirms_tell : KeepsConfirmed AllTell
confirms_tell = record {
  shows = λ t local position rec why w.
      all_push (TellsOf t.state) t.marks (marks.Confirm position rec) w (record { local = local; covered = why.covered; place = why.place; at = why.at });
  sends = λ t to what w. w;
}

promises_tell : KeepsPromised AllTell
promises_tell = record {
  shows = λ t local position rec why w.
      all_push (TellsOf t.state) t.marks (marks.Promise position rec) w
      (record { local = local; primary = why.primary; below = why.durable; lease = why.lease; at = why.at });
  sends = λ t tos what w. w;
  counts = λ t count w. w;
}

-- ---- a step in which an entry is told

after_notice : (effect : Effect) (t : Turn ReplicaState) → AllTell t → AllTell (notice effect t)
after_notice (Removed shard first) t w = all_push (TellsOf t.state) t.marks (marks.Notice first) w tt
after_notice _ t w = w

-- of a turn that showed nothing yet
after_learned : (before : Agreement) (entry : Entry) (t : Turn ReplicaState) → AllTell (covered_is_durable t) → AllTell (on_learned before entry t)
after_learned before entry t start =
    let from : ℕ = covered_locals before (shard_of t) in
    after_notice (effect_of before entry) (confirm_from from (covered_is_durable t)) (all_confirmed AllTell confirms_tell from (covered_is_durable t) start).0

after_ask : (to : NodeId) (t : Turn ReplicaState) → AllTell t → AllTell (ask to t)
after_ask to t w = on_test AllTell (has_slot t.state.base) (send to (whats.Learn (count_known t)) t) t (λ _. w) (λ _. w)

after_decided : (n : Node ReplicaState) (from : NodeId) (slot count : ℕ) (entry : Entry) → AllTell (decided on_learned from slot count entry (started n))
after_decided n from slot count entry =
    let u : Turn ReplicaState = with_seen count (started n) in
    let next : Turn ReplicaState = learn_next on_learned slot entry u in
    let told : AllTell next =
    on_test AllTell (slot == count_known u) (learn on_learned entry u) u (λ _. after_learned (agreed u) entry (learned entry u) tt) (λ _. tt) in
    on_test AllTell (nat_lt (count_known next) next.state.base.seen) (ask from next) next (λ _. after_ask from next told) (λ _. told)

-- ---- any other step

module _ (n : Node ReplicaState) (event : Event) (none : IsUntold n event) where
  grown : (s : Node ReplicaState) (durable : ℕ) (log : List Record) (shown : List Mark) → s.own.durable ≤ durable → IsPrefix s.own.log log
      → AllByRecursion (TellsOf s) shown → AllByRecursion (TellsLocal (agreed_by s.base) s.base.me durable log) shown
  grown s durable log shown more p =
      all_weaken (TellsOf s) (TellsLocal (agreed_by s.base) s.base.me durable log) shown
      (tells_more (agreed_by s.base) s.base.me s.own.durable durable s.own.log log more p)

  shown_tells : (s : Node ReplicaState) (mark : Mark) → Shows n event s mark → TellsOf s mark
  shown_tells s _ (confirmed local position rec why) = record { local = local; covered = why.covered; place = why.place; at = why.at }
  shown_tells s _ (noticed first why) = tt
  shown_tells s _ (promised position rec why) =
      record { local = s.own.promised; primary = why.primary; below = why.durable; lease = why.lease; at = why.at }

  stored_tells : (s : Node ReplicaState) (item : Item) (own : ReplicaState) (shown : List Mark) → Stores n event s item own
      → AllByRecursion (TellsOf s) shown
      → AllByRecursion (TellsLocal (agreed_by s.base) s.base.me own.durable own.log) shown
  stored_tells s _ _ shown (appends from first number body comes there low room expected) =
      grown s s.own.durable _ shown (omega arith) (begins_more s.own.log _)
  stored_tells s _ _ shown (copied from rec comes room) = grown s s.own.durable _ shown (omega arith) (begins_more s.own.log _)
  stored_tells s _ _ shown (fills from wanted comes there short) = grown s s.own.durable _ shown (omega arith) (begins_more s.own.log _)

  changed_tells : (s : Node ReplicaState) (own : ReplicaState) (shown : List Mark) → Changes n event s own → AllByRecursion (TellsOf s) shown
      → AllByRecursion (TellsLocal (agreed_by s.base) s.base.me own.durable own.log) shown
  changed_tells s _ shown (holds from len comes) =
      grown s (durable_to (min len (length s.own.log)) s.own).durable s.own.log shown (omega arith) (begins_itself s.own.log)
  changed_tells s _ shown (covers before entry learned) =
      grown s (durable_to (covered_locals (agreed_by s.base) (number_of s.base.me)) s.own).durable s.own.log shown (omega arith) (begins_itself s.own.log)
  changed_tells s _ shown (cuts first why) = λ w. w
  changed_tells s _ shown (promises_on durable primary free) = λ w. w

  step_untold : AllTell (replica_step n event)
  step_untold =
      replica_walk _ n event
      (unsent_sites AllTell
      (record {
        starts = tt;
        restarts = λ e. tt;
        learns = λ t entry why w. absurd (none t.state entry why);
        shows = λ t mark why w. all_push (TellsOf t.state) t.marks mark w (shown_tells t.state mark why);
        stores = λ t item own why w. stored_tells t.state item own t.marks why w;
        changes = λ t own why w. changed_tells t.state own t.marks why w;
      }))

-- ---- any step

pub replica_tells : (n : Node ReplicaState) (event : Event) → AllByRecursion (TellsOf (replica_step n event).state) (replica_step n event).marks
replica_tells n event =
    on_both_turns n event AllTell
    (record {
      start = tt;
      decides = λ from slot count entry comes. after_decided n from slot count entry;
      promises = all_promised AllTell promises_tell;
      others = step_untold n event;
    })
