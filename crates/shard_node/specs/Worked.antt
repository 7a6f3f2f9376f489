-- Worked steps of replicas.
use Rattle.std.specs.Prelude.{◌≡◌, [], ◌∷◌}
use Rattle.node_rules.specs.Names.{Event}
use Rattle.node_rules.specs.Names.entries
use Rattle.node_rules.specs.Names.events
use Rattle.node_rules.specs.Names.items
use Rattle.node_rules.specs.Names.marks
use Rattle.node_rules.specs.Names.records
use Rattle.node_rules.specs.Names.whats
use Rattle.node_rules.specs.Nodes.{Node}
use Rattle.node_rules.specs.Turns.{Turn, step_of}
use Rattle.node_rules.specs.Examples.{single, pair, q0, s0p, s0b, c0, k0, five, comes, sent, step, nothing}
use Rattle.shard_node.specs.States.{ReplicaState}
use Rattle.shard_node.specs.Steps.{replica_step}
use Rattle.shard_node.specs.Restart.{fresh_node, restart_of}

-- ---- the way of one record

abbrev append : Event
append = comes c0 s0p (whats.Append 0 0 (53 ∷ []))

abbrev taken : Turn ReplicaState
taken = replica_step (fresh_node single s0p) append

abbrev durable : Turn ReplicaState
durable = replica_step taken.state (comes s0b s0p (whats.Replicated 1))

abbrev covered : Turn ReplicaState
covered = replica_step durable.state (comes q0 s0p (whats.Decided 0 1 (entries.Cut 0 0)))

-- ---- a backup

abbrev copied : Turn ReplicaState
copied = replica_step (fresh_node single s0b) (comes s0p s0b (whats.Replicate 0 five))

abbrev covered_at_backup : Turn ReplicaState
covered_at_backup = replica_step copied.state (comes q0 s0b (whats.Decided 0 1 (entries.Cut 0 0)))

-- ---- filling up

abbrev filled : Turn ReplicaState
filled = replica_step (fresh_node single s0p) (comes q0 s0p (whats.Fill 2))

-- ---- a shard that is gone

abbrev removed : Turn ReplicaState
removed = replica_step (replica_step (fresh_node pair s0p) append).state (comes q0 s0p (whats.Decided 0 1 (entries.Remove 0 0)))

-- it is covered, and its shard is gone after it
abbrev gone_later : Node ReplicaState
gone_later = restart_of pair s0p (items.Taken five ∷ items.Known (entries.Cut 0 0) ∷ items.Known (entries.Remove 0 0) ∷ [])

pub record Worked : Type 0 where
  pub append_is_taken : step_of taken ≡ step (items.Taken five ∷ []) (sent s0p s0b (whats.Replicate 0 five) ∷ sent s0p q0 (whats.Report 1) ∷ []) []
  pub durable_is_promised : step_of durable ≡ step [] (sent s0p k0 (whats.Deliver 0 five) ∷ []) (marks.Promise 0 five ∷ [])
  pub covered_is_confirmed : step_of covered ≡ step (items.Known (entries.Cut 0 0) ∷ []) (sent s0p c0 (whats.Ack 0 0) ∷ []) (marks.Confirm 0 five ∷ [])
  pub again_after_the_cut : step_of (replica_step covered.state append) ≡ step [] (sent s0p c0 (whats.Ack 0 0) ∷ []) []
  pub again_before_the_cut : step_of (replica_step taken.state append) ≡ nothing
  pub gap_is_left : step_of (replica_step taken.state (comes c0 s0p (whats.Append 0 2 (53 ∷ [])))) ≡ nothing
  pub promised_once : step_of (replica_step durable.state (comes s0b s0p (whats.Replicated 1))) ≡ nothing
  pub fetch_of_a_durable : step_of (replica_step durable.state (comes k0 s0p (whats.Fetch 0))) ≡ step [] (sent s0p k0 (whats.Deliver 0 five) ∷ []) []
  pub fetch_of_another : step_of (replica_step taken.state (comes k0 s0p (whats.Fetch 0))) ≡ nothing
  pub backup_copies : step_of copied ≡ step (items.Taken five ∷ []) (sent s0b s0p (whats.Replicated 1) ∷ sent s0b q0 (whats.Report 1) ∷ []) []
  pub backup_copies_once : step_of (replica_step copied.state (comes s0p s0b (whats.Replicate 0 five))) ≡ step [] (sent s0b s0p (whats.Replicated 1) ∷ []) []
  -- it confirms and tells no client
  pub backup_confirms : step_of covered_at_backup ≡ step (items.Known (entries.Cut 0 0) ∷ []) [] (marks.Confirm 0 five ∷ [])
  pub wrong_class_is_left : step_of (replica_step (fresh_node single s0b) (comes c0 s0b (whats.Append 0 0 (53 ∷ [])))) ≡ nothing
  pub fill_fills : step_of filled ≡ step (items.Noops 2 ∷ []) (sent s0p s0b (whats.Replicate 0 records.Noop) ∷ sent s0p s0b (whats.Replicate 1 records.Noop) ∷ sent s0p q0 (whats.Report 2) ∷ []) []
  pub tick_reports : step_of (replica_step taken.state events.Tick) ≡ step [] (sent s0p q0 (whats.Learn 0) ∷ sent s0p q0 (whats.Report 1) ∷ sent s0p s0b (whats.Replicate 0 five) ∷ []) []
  pub removal_is_noticed : step_of removed ≡ step (items.Known (entries.Remove 0 0) ∷ []) [] (marks.Notice 0 ∷ [])
  pub gone_takes_nothing : step_of (replica_step removed.state (comes c0 s0p (whats.Append 0 1 (53 ∷ [])))) ≡ nothing
  pub fate_of_an_uncovered : step_of (replica_step removed.state (comes c0 s0p (whats.AskFate 0 0))) ≡ step [] (sent s0p c0 (whats.Fate 0) ∷ []) []
  pub fate_of_a_covered : step_of (replica_step gone_later (comes c0 s0p (whats.AskFate 0 0))) ≡ step [] (sent s0p c0 (whats.Ack 0 0) ∷ []) []
  pub fate_of_the_next : step_of (replica_step gone_later (comes c0 s0p (whats.AskFate 0 1))) ≡ step [] (sent s0p c0 (whats.Fate 1) ∷ []) []
  -- restarts
  pub restart_is_the_items : (replica_step covered.state events.Restart).state ≡ restart_of single s0p (items.Taken five ∷ items.Known (entries.Cut 0 0) ∷ [])
  pub restart_shows_nothing : step_of (replica_step covered.state events.Restart) ≡ nothing
  pub promises_start_at_the_covered : (restart_of single s0p (items.Taken five ∷ items.Noops 2 ∷ items.Acked ∷ items.Known (entries.Cut 0 0) ∷ [])).own ≡ record { log = five ∷ records.Noop ∷ records.Noop ∷ []; durable = 1; promised = 1 }
