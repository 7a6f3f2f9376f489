use Rattle.msg_wire.specs.Names.nodes
use Rattle.node_order.proofs.Lists.{one_more}
use Rattle.node_order.proofs.order.push_clients.Goals as goal

pub loop-number-preserved : goal.loop-number-preserved
loop-number-preserved c = one_more nodes.Client c.args.order.now.items c.loop-number.order.items _ c.loop-number.number c.loop-number.invariant c.in_ok-push.ensures.items
