use Rattle.node_rules.specs.Names.nodes
use Rattle.node_rules.proofs.SendLemmas.{sent_next, others_more}
use Rattle.node_rules.proofs.node.Node.send_to_other_sequencers.Goals as goal

pub loop-number-preserved : goal.loop-number-preserved
loop-number-preserved g c =
    sent_next _ _ _ c.args.what.now _ _ _ c.in_ok-send_to_other.ensures c.loop-number.invariant (others_more c.args.self.now.base.me nodes.Seq c.loop-number.number)
