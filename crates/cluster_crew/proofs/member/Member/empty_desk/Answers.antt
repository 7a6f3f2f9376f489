use Rattle.cluster_crew.proofs.Members.{stays_then, turns_on}
use Rattle.cluster_crew.proofs.member.Member.empty_desk.Goals as goal

pub take_body-requires : goal.take_body-requires
take_body-requires g c =
    turns_on g.N.NodeModel g.D.Disk c.args.desks.now c.args.self.now c.loop-taken.self c.requires c.loop-taken.invariant

pub returns-then-not-take_body-clause-stays : goal.returns-then-not-take_body-clause-stays
returns-then-not-take_body-clause-stays g c =
    stays_then g.N.NodeModel g.D.Disk c.args.self.now c.loop-taken.self c.take_body.new.self c.loop-taken.invariant c.take_body.ensures

pub loop-taken-preserved : goal.loop-taken-preserved
loop-taken-preserved g c =
    stays_then g.N.NodeModel g.D.Disk c.args.self.now c.loop-taken.self c.take_body.new.self c.loop-taken.invariant c.take_body.ensures
