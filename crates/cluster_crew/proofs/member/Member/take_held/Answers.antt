use Rattle.std.proofs.Common.{rules}
use Rattle.cluster_crew.proofs.Members.{stays_then}
use Rattle.cluster_crew.proofs.member.Member.take_held.Goals as goal

pub loop-taken-preserved : goal.loop-taken-preserved
loop-taken-preserved g c = record {
  stays = stays_then g.N.NodeModel g.D.Disk c.args.self.now c.loop-taken.self c.submit.new.self c.loop-taken.invariant.stays c.submit.ensures;
  count = search rules;
}
