-- How a replica's log grows: Append and Fill at the primary, Replicate at the backup.
use Rattle.std.specs.Prelude.{ℕ, ◌-◌, ◌^◌, ◌==◌, ◌&&◌, not, nat_lt, min, if◌then◌else◌, List, [], ◌∷◌, ◌++◌, replicate}
use Rattle.std.specs.List.{fold, range_with_len}
use Rattle.std.specs.Option.{option_map_or}
use Rattle.shard_log.specs.declared.answers.Appended.{Appended}
use Rattle.shard_log.specs.declared.answers.Appended.TheVariants.{Taken, Duplicate, Gap}
use Rattle.shard_log.specs.ShardLog.{append_from_answer}
use Rattle.cut_core.specs.Map.{placed}
use Rattle.msg_wire.specs.Nodes.{sequencers_of, number_of}
use Rattle.node_rules.specs.Names.{NodeId, Record}
use Rattle.node_rules.specs.Names.nodes
use Rattle.node_rules.specs.Names.sides
use Rattle.node_rules.specs.Names.records
use Rattle.node_rules.specs.Names.items
use Rattle.node_rules.specs.Names.whats
use Rattle.node_rules.specs.Turns.{Turn, cfg_of, agreed, store, send, send_all}
use Rattle.shard_node.specs.States.{ReplicaState, shard_of, log_of, log_length, is_shard_gone, put_log}

-- every sequencer is told how long the log is
abbrev pub report : Turn ReplicaState → Turn ReplicaState
report t = send_all (sequencers_of (cfg_of t)) (whats.Report (log_length t)) t

-- the backup is sent a record
abbrev pub replicate_at : ℕ → Record → Turn ReplicaState → Turn ReplicaState
replicate_at local rec t = send (nodes.Shard (shard_of t) sides.Backup) (whats.Replicate local rec) t

-- the log has one more record, which is stored
abbrev pub take_in : Record → Turn ReplicaState → Turn ReplicaState
take_in rec t = put_log (log_of t ++ rec ∷ []) (store (items.Taken rec) t)

-- a client is told the position of its record at a local
abbrev pub acknowledge : NodeId → ℕ → ℕ → Turn ReplicaState → Turn ReplicaState
acknowledge client number local t =
    option_map_or (λ position. send client (whats.Ack number position) t) (placed (agreed t) (shard_of t) local) t

-- ---- Append

-- a record that was expected is taken, copied to the backup and reported; for one that is covered its position goes back
abbrev pub appended : Appended → NodeId → ℕ → List ℕ → Turn ReplicaState → Turn ReplicaState
appended (Taken local) client number body t =
    report (replicate_at local (records.Data (number_of client) number body) (take_in (records.Data (number_of client) number body) t))
appended (Duplicate local) client number body t = acknowledge client number local t
appended (Gap expected) client number body t = t

-- there is room for one more record, and the number isn't at its limit
abbrev pub append_unless_full : NodeId → ℕ → ℕ → List ℕ → Turn ReplicaState → Turn ReplicaState
append_unless_full client first number body t =
    if nat_lt number (2 ^ 48) && nat_lt (log_length t) (2 ^ 48)
    then appended (append_from_answer (number_of client) first number (log_of t)) client number body t
    else t

-- Append, while the shard isn't gone
abbrev pub hear_append : NodeId → ℕ → ℕ → List ℕ → Turn ReplicaState → Turn ReplicaState
hear_append client first number body t = if is_shard_gone t then t else append_unless_full client first number body t

-- ---- Fill

-- how many places are filled at once
abbrev pub fill_count : ℕ → Turn ReplicaState → ℕ
fill_count wanted t = min (wanted - log_length t) 64

-- so many places at the end of the log are filled, which is stored
abbrev pub filled : ℕ → Turn ReplicaState → Turn ReplicaState
filled count t = put_log (log_of t ++ replicate count records.Noop) (store (items.Noops count) t)

-- the backup is sent the filled places, from a local on
abbrev pub replicate_noops : ℕ → ℕ → Turn ReplicaState → Turn ReplicaState
replicate_noops from count t = fold (λ s local. replicate_at local records.Noop s) t (range_with_len from count)

-- Fill, where the shard isn't gone and its log is shorter: up to 64 places are filled, copied and reported
abbrev pub hear_fill : ℕ → Turn ReplicaState → Turn ReplicaState
hear_fill wanted t =
    if not (is_shard_gone t) && nat_lt (log_length t) wanted
    then report (replicate_noops (log_length t) (fill_count wanted t) (filled (fill_count wanted t) t))
    else t

-- ---- Replicate

-- how long the log is goes back to the primary
abbrev pub confirm_length : NodeId → Turn ReplicaState → Turn ReplicaState
confirm_length to t = send to (whats.Replicated (log_length t)) t

-- the record that is next is taken, and the longer log reported; at its limit the log takes nothing
abbrev pub copy_next : NodeId → Record → Turn ReplicaState → Turn ReplicaState
copy_next from rec t = if nat_lt (log_length t) (2 ^ 48) then report (confirm_length from (take_in rec t)) else t

-- Replicate: the record at the log's end is taken; the length goes back in any case
abbrev pub hear_replicate : NodeId → ℕ → Record → Turn ReplicaState → Turn ReplicaState
hear_replicate from local rec t = if local == log_length t then copy_next from rec t else confirm_length from t
