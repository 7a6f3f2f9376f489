-- What holds of every replica, whatever valid events it took.
use Rattle.std.specs.Prelude.{◌≤◌, ◌^◌, length}
use Rattle.std.specs.List.{AllByRecursion}
use Rattle.record_codec.specs.Records.{IsValidRecord}
use Rattle.node_rules.specs.Nodes.{Node}
use Rattle.node_rules.specs.Sound.{IsBase}
use Rattle.shard_node.specs.States.{ReplicaState}

-- its log has at most 2^48 records, each of them valid, and at most 2^48 are durable
pub record IsOwn (s : ReplicaState) : Type 0 where
  pub records : AllByRecursion IsValidRecord s.log
  pub room : length s.log ≤ 2 ^ 48
  pub durable : s.durable ≤ 2 ^ 48

pub record IsReplica (n : Node ReplicaState) : Type 0 where
  pub base : IsBase n.base
  pub own : IsOwn n.own
