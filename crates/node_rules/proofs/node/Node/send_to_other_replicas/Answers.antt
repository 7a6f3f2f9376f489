use Rattle.node_rules.proofs.SendLemmas.{sent_next, other_replicas_more}
use Rattle.node_rules.proofs.node.Node.send_to_other_replicas.Goals as goal

pub loop-shard-preserved : goal.loop-shard-preserved
loop-shard-preserved g c =
    sent_next _ _ _ c.args.what.now _ _ _ c.in_ok-send_to_other_replicas_of.ensures c.loop-shard.invariant (other_replicas_more c.args.self.now.base.me c.loop-shard.shard)
