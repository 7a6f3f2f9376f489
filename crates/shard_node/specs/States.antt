-- What a replica of a shard has: its log, and of a primary how much of it is durable and promised.
use Rattle.std.specs.Prelude.{ℕ, Bool, max, if◌then◌else◌, List, [], length, is_some}
use Rattle.cut_core.specs.Map.{covered_locals, gone_end}
use Rattle.msg_wire.specs.Nodes.{is_primary, number_of}
use Rattle.node_rules.specs.Names.{Record}
use Rattle.node_rules.specs.Nodes.{Node}
use Rattle.node_rules.specs.Turns.{Turn, me_of, own_of, agreed, put_own}
use Rattle.shard_node.specs.declared.state.ReplicaState.{ReplicaState as ReplicaStateOf}

-- the shard's records by local; how many of them the primary knows both replicas to hold; how many of them it has
-- promised and delivered. The last two are asked of a primary alone: a backup's log is durable whole
abbrev pub ReplicaState : Type 0
ReplicaState = ReplicaStateOf

-- with this log, and durable and promised as far as it is covered
abbrev pub replica_with : List Record → ℕ → ReplicaState
replica_with log covered = record { log = log; durable = covered; promised = covered }

abbrev pub fresh_replica : ReplicaState
fresh_replica = replica_with [] 0

abbrev pub with_log : List Record → ReplicaState → ReplicaState
with_log log s = record s { log = log }

-- at least so many are durable
abbrev pub durable_to : ℕ → ReplicaState → ReplicaState
durable_to count s = record s { durable = max s.durable count }

abbrev pub with_promised : ℕ → ReplicaState → ReplicaState
with_promised count s = record s { promised = count }

-- ---- what a turn's replica has

abbrev pub shard_of : Turn ReplicaState → ℕ
shard_of t = number_of (me_of t)

abbrev pub log_of : Turn ReplicaState → List Record
log_of t = (own_of t).log

abbrev pub log_length : Turn ReplicaState → ℕ
log_length t = length (log_of t)

-- a primary's durable records, and all of a backup's
abbrev pub durable_locals : Node ReplicaState → ℕ
durable_locals n = if is_primary n.base.me then n.own.durable else length n.own.log

abbrev pub durable_of : Turn ReplicaState → ℕ
durable_of t = durable_locals t.state

-- how many of the shard's locals are covered
abbrev pub covered_of : Turn ReplicaState → ℕ
covered_of t = covered_locals (agreed t) (shard_of t)

abbrev pub is_shard_gone : Turn ReplicaState → Bool
is_shard_gone t = is_some (gone_end (agreed t) (shard_of t))

abbrev pub put_log : List Record → Turn ReplicaState → Turn ReplicaState
put_log log t = put_own (with_log log (own_of t)) t
