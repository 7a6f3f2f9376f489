use Rattle.cluster_crew.proofs.Members.{stays_then}
use Rattle.cluster_crew.proofs.member.Member.take_body.Goals as goal

pub returns-in-Some : goal.returns-in-Some
returns-in-Some g c =
    stays_then g.N.NodeModel g.D.Disk c.args.self.now c.next_body.new.self c.submit.new.self c.next_body.ensures.stays c.submit.ensures
