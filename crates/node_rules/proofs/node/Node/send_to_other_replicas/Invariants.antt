use Rattle.std.proofs.Common.{◌≡◌}
use Rattle.std.specs.List.{range_with_len, flat_map}
use Rattle.msg_wire.specs.Nodes.{without_node, replicas_of}
use Rattle.node_rules.specs.Turns.{turn_of, send_all}
use Rattle.node_rules.proofs.node.Node.send_to_other_replicas.Given as goal

abbrev pub invariant-loop-shard : goal.invariant-loop-shard
invariant-loop-shard g l = turn_of l.self l.out ≡ send_all (without_node l.self.base.me (flat_map replicas_of (range_with_len 0 l.shard))) l.what (turn_of l.self l.fn.out)
