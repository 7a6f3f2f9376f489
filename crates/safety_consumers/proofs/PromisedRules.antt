-- A replica's rules but those of a learned entry and of promises leave its name, what it knows to be agreed, and how far it has promised.
use Rattle.std.proofs.Common.{◌≡◌, ℕ, ◌^◌, ◌==◌, ◌&&◌, not, nat_lt, List, take, Option, Some, None, refl}
use Rattle.std.specs.Prelude.{nat_le}
use Rattle.std.specs.List.{range_with_len, slice_get}
use Rattle.shard_log.specs.declared.answers.Appended.{Appended}
use Rattle.shard_log.specs.declared.answers.Appended.TheVariants.{Taken, Duplicate, Gap}
use Rattle.shard_log.specs.ShardLog.{append_from_answer, expected_of, local_of}
use Rattle.cut_core.specs.Agreements.{Agreement}
use Rattle.cut_core.specs.Map.{placed, gone_end}
use Rattle.msg_wire.specs.Heeded.{is_heeded}
use Rattle.msg_wire.specs.Nodes.{is_primary, number_of}
use Rattle.node_rules.specs.Names.{NodeId, Entry, Record, What, Event}
use Rattle.node_rules.specs.Names.records
use Rattle.node_rules.specs.Names.whats
use Rattle.node_rules.specs.Names.events
use Rattle.node_rules.specs.Nodes.{Node, agreed_by, has_slot, asked_by}
use Rattle.node_rules.specs.Turns.{Turn, started, me_of, own_of, agreed, send}
use Rattle.node_rules.specs.Rules.{ask, decided, tick}
use Rattle.node_rules.proofs.Lists.{on_test, on_option, on_fold}
use Rattle.node_rules.proofs.Places.{Comes}
use Rattle.shard_node.specs.States.{ReplicaState, shard_of, log_of, log_length, durable_of, is_shard_gone}
use Rattle.shard_node.specs.Learning.{on_learned}
use Rattle.shard_node.specs.Logs.{report, replicate_at, acknowledge, appended, hear_append, fill_count, filled, hear_fill, hear_replicate}
use Rattle.shard_node.specs.Rules.{hear_fetch, answer_fate, fate_at, replicate_again, on_tick}
use Rattle.shard_node.specs.Steps.{hear, handle}

-- of how far it has promised, what it knows to be agreed, and its name
module _ (Q : ℕ → Agreement → NodeId → Type 0) where
  abbrev pub Has : Node ReplicaState → Type 0
  Has s = Q s.own.promised (agreed_by s.base) s.base.me

  abbrev pub OfTurn : Turn ReplicaState → Type 0
  OfTurn t = Has t.state

  -- ---- Append, Fill and Replicate

  acknowledged : (client : NodeId) (number local : ℕ) (t : Turn ReplicaState) → OfTurn t → OfTurn (acknowledge client number local t)
  acknowledged client number local t w =
      on_option OfTurn (λ position. send client (whats.Ack number position) t) (placed (agreed t) (shard_of t) local) t (λ position at. w) w

  after_appended : (answer : Appended) (client : NodeId) (number : ℕ) (body : List ℕ) (t : Turn ReplicaState) → OfTurn t
      → OfTurn (appended answer client number body t)
  after_appended (Taken local) client number body t w = w
  after_appended (Duplicate local) client number body t w = acknowledged client number local t w
  after_appended (Gap expected) client number body t w = w

  heard_append : (client : NodeId) (first number : ℕ) (body : List ℕ) (t : Turn ReplicaState) → OfTurn t → OfTurn (hear_append client first number body t)
  heard_append client first number body t w =
      on_test OfTurn (is_shard_gone t) t _ (λ _. w)
      (λ _. on_test OfTurn (nat_lt number (2 ^ 48) && nat_lt (log_length t) (2 ^ 48)) _ t
      (λ _. after_appended (append_from_answer (number_of client) first number (log_of t)) client number body t w) (λ _. w))

  heard_fill : (wanted : ℕ) (t : Turn ReplicaState) → OfTurn t → OfTurn (hear_fill wanted t)
  heard_fill wanted t w =
      on_test OfTurn (not (is_shard_gone t) && nat_lt (log_length t) wanted) _ t
      (λ _. on_fold OfTurn (λ s local. replicate_at local records.Noop s) (range_with_len (log_length t) (fill_count wanted t)) (filled (fill_count wanted t) t)
      (λ u i local at is. is) w)
      (λ _. w)

  heard_replicate : (from : NodeId) (local : ℕ) (rec : Record) (t : Turn ReplicaState) → OfTurn t → OfTurn (hear_replicate from local rec t)
  heard_replicate from local rec t w =
      on_test OfTurn (local == log_length t) _ _ (λ _. on_test OfTurn (nat_lt (log_length t) (2 ^ 48)) _ t (λ _. w) (λ _. w)) (λ _. w)

  -- ---- Fetch and AskFate

  heard_fetch : (from : NodeId) (local : ℕ) (t : Turn ReplicaState) → OfTurn t → OfTurn (hear_fetch from local t)
  heard_fetch from local t w =
      on_test OfTurn (nat_lt local (durable_of t)) _ t
      (λ _. on_option OfTurn (λ rec. send from (whats.Deliver local rec) t) (slice_get (log_of t) local) t (λ rec at. w) w) (λ _. w)

  answered : (client : NodeId) (least next : ℕ) (t : Turn ReplicaState) → OfTurn t → OfTurn (answer_fate client least next t)
  answered client least next t w =
      on_test OfTurn (nat_lt least next) _ _
      (λ _. on_option OfTurn (λ local. acknowledge client least local t) (local_of (number_of client) least (log_of t)) t
      (λ local at. acknowledged client least local t w) w)
      (λ _. w)

  heard_fate : (end : Option ℕ) (client : NodeId) (first least : ℕ) (t : Turn ReplicaState) → OfTurn t → OfTurn (fate_at end client first least t)
  heard_fate None client first least t w = w
  heard_fate (Some end) client first least t w =
      on_test OfTurn (nat_le end (log_length t)) _ t
      (λ _. answered client least (expected_of (number_of client) first (take end (log_of t))) t w) (λ _. w)

  -- ---- Tick

  pub after_ask : (to : NodeId) (t : Turn ReplicaState) → OfTurn t → OfTurn (ask to t)
  after_ask to t w = on_test OfTurn (has_slot t.state.base) _ t (λ _. w) (λ _. w)

  after_tick : (t : Turn ReplicaState) → OfTurn t → OfTurn (tick t)
  after_tick t w = on_option OfTurn (λ to. ask to t) (asked_by t.state.base) t (λ to at. after_ask to t w) w

  copied_again : (t : Turn ReplicaState) (local : ℕ) → OfTurn t → OfTurn (replicate_again t local)
  copied_again t local w = on_option OfTurn (λ rec. replicate_at local rec t) (slice_get (log_of t) local) t (λ rec at. w) w

  ticked : (t : Turn ReplicaState) → OfTurn t → OfTurn (on_tick t)
  ticked t w =
      let u : Turn ReplicaState = report (tick t) in
      let is : OfTurn u = after_tick t w in
      on_test OfTurn (is_primary (me_of u)) _ u
      (λ _. on_fold OfTurn replicate_again (range_with_len (own_of u).durable 8) u (λ v i local at so_far. copied_again v local so_far) is)
      (λ _. is)

  -- ---- what an event does by itself

  heard : (from : NodeId) (what : What) (t : Turn ReplicaState)
      → ((slot count : ℕ) (entry : Entry) → what ≡ whats.Decided slot count entry → OfTurn (decided on_learned from slot count entry t)) → OfTurn t
      → OfTurn (hear from what t)
  heard from (whats.Decided slot count entry) t told w = told slot count entry refl
  heard from (whats.Append first number body) t told w = heard_append from first number body t w
  heard from (whats.Fill wanted) t told w = heard_fill wanted t w
  heard from (whats.Replicate local rec) t told w = heard_replicate from local rec t w
  heard from (whats.Replicated len) t told w = w
  heard from (whats.Fetch local) t told w = heard_fetch from local t w
  heard from (whats.AskFate first least) t told w = heard_fate (gone_end (agreed t) (shard_of t)) from first least t w
  heard from _ t told w = w

  -- where a Decided that comes keeps it
  pub handled : (n : Node ReplicaState) (event : Event)
      → ((from : NodeId) (slot count : ℕ) (entry : Entry) → Comes n event from (whats.Decided slot count entry)
      → OfTurn (decided on_learned from slot count entry (started n)))
      → Has n → OfTurn (handle event (started n))
  handled n (events.Deliver m) told w =
      on_test OfTurn (is_heeded n.base.cfg n.base.me m) (hear m.from m.what (started n)) (started n)
      (λ heeded. heard m.from m.what (started n)
      (λ slot count entry says. told m.from slot count entry (record { message = m; same = refl; by = refl; says = says; heeded = heeded })) w)
      (λ _. w)
  handled n events.Tick told w = ticked (started n) w
  handled n _ told w = w
