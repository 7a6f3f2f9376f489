use Rattle.std.proofs.Common.{◌≡◌, ◌++◌}
use Rattle.std.specs.List.{range_with_len, flat_map}
use Rattle.msg_wire.specs.Nodes.{replicas_of}
use Rattle.node_order.proofs.order.push_replicas.Given as goal

abbrev pub invariant-loop-shard : goal.invariant-loop-shard
invariant-loop-shard l = l.order.items ≡ l.fn.order.items ++ flat_map replicas_of (range_with_len 0 l.shard)
