use Rattle.std.proofs.Common.{◌≡◌, ◌++◌, map}
use Rattle.std.specs.List.{range_with_len}
use Rattle.msg_wire.specs.Names.nodes
use Rattle.node_order.proofs.order.push_clients.Given as goal

abbrev pub invariant-loop-number : goal.invariant-loop-number
invariant-loop-number l = l.order.items ≡ l.fn.order.items ++ map nodes.Client (range_with_len 0 l.number)
