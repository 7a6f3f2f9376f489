use Rattle.cluster_crew.proofs.Members.{ended_at}
use Rattle.cluster_crew.proofs.member.Member.end_faults.Goals as goal

pub returns-clause-stays : goal.returns-clause-stays
returns-clause-stays g c = ended_at g.N.NodeModel g.D.Disk _ _ _ c.end_faults.ensures
