-- A replica's other rules: Replicated, Fetch, AskFate and Tick.
use Rattle.std.specs.Prelude.{ℕ, nat_lt, nat_le, min, if◌then◌else◌, Option, Some, None, take, slice_get}
use Rattle.std.specs.List.{fold, range_with_len}
use Rattle.std.specs.Option.{option_map_or}
use Rattle.shard_log.specs.ShardLog.{expected_of, local_of}
use Rattle.cut_core.specs.Map.{gone_end}
use Rattle.msg_wire.specs.Nodes.{is_primary, number_of}
use Rattle.node_rules.specs.Names.{NodeId}
use Rattle.node_rules.specs.Names.whats
use Rattle.node_rules.specs.Turns.{Turn, me_of, own_of, agreed, put_own, send}
use Rattle.node_rules.specs.Rules.{tick}
use Rattle.shard_node.specs.States.{ReplicaState, shard_of, log_of, log_length, durable_of, durable_to}
use Rattle.shard_node.specs.Logs.{report, replicate_at, acknowledge}

-- Replicated: so much of the primary's log is at the backup too
abbrev pub hear_replicated : ℕ → Turn ReplicaState → Turn ReplicaState
hear_replicated len t = put_own (durable_to (min len (log_length t)) (own_of t)) t

-- Fetch: a durable record is delivered
abbrev pub hear_fetch : NodeId → ℕ → Turn ReplicaState → Turn ReplicaState
hear_fetch from local t =
    if nat_lt local (durable_of t)
    then option_map_or (λ rec. send from (whats.Deliver local rec) t) (slice_get (log_of t) local) t
    else t

-- ---- AskFate

-- the position of the client's record of a number, where the log has it and it is covered
abbrev pub acknowledge_number : NodeId → ℕ → Turn ReplicaState → Turn ReplicaState
acknowledge_number client number t =
    option_map_or (λ local. acknowledge client number local t) (local_of (number_of client) number (log_of t)) t

-- a number below the client's next one is covered here, and its position goes back; else the next one does
abbrev pub answer_fate : NodeId → ℕ → ℕ → Turn ReplicaState → Turn ReplicaState
answer_fate client least next t =
    if nat_lt least next then acknowledge_number client least t else send client (whats.Fate next) t

-- the client's next number after the shard's final locals, which the log has to hold
abbrev pub fate_at : Option ℕ → NodeId → ℕ → ℕ → Turn ReplicaState → Turn ReplicaState
fate_at None client first least t = t
fate_at (Some end) client first least t =
    if nat_le end (log_length t)
    then answer_fate client least (expected_of (number_of client) first (take end (log_of t))) t
    else t

-- AskFate, where the shard is gone
abbrev pub hear_ask_fate : NodeId → ℕ → ℕ → Turn ReplicaState → Turn ReplicaState
hear_ask_fate client first least t = fate_at (gone_end (agreed t) (shard_of t)) client first least t

-- ---- Tick

-- the record at a local is sent to the backup once more
abbrev pub replicate_again : Turn ReplicaState → ℕ → Turn ReplicaState
replicate_again t local = option_map_or (λ rec. replicate_at local rec t) (slice_get (log_of t) local) t

-- so are those at several locals
abbrev pub replicate_from : ℕ → ℕ → Turn ReplicaState → Turn ReplicaState
replicate_from local count t = fold replicate_again t (range_with_len local count)

-- a primary sends its backup the next 8 records that aren't known to be durable
abbrev pub replicate_some : Turn ReplicaState → Turn ReplicaState
replicate_some t = if is_primary (me_of t) then replicate_from (own_of t).durable 8 t else t

-- Tick
abbrev pub on_tick : Turn ReplicaState → Turn ReplicaState
on_tick t = replicate_some (report (tick t))
