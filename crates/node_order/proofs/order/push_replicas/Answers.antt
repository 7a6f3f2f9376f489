use Rattle.msg_wire.specs.Nodes.{replicas_of}
use Rattle.node_order.proofs.Lists.{several_more}
use Rattle.node_order.proofs.order.push_replicas.Goals as goal

pub loop-shard-preserved : goal.loop-shard-preserved
loop-shard-preserved c = several_more replicas_of c.args.order.now.items c.loop-shard.order.items _ c.loop-shard.shard c.loop-shard.invariant c.in_ok-push_replicas_of.ensures
