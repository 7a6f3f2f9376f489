use Rattle.cluster_crew.specs.Posts.{Stays}
use Rattle.cluster_crew.proofs.member.Member.empty_desk.Given as goal

abbrev pub invariant-loop-taken : goal.invariant-loop-taken
invariant-loop-taken g l = Stays g.N.NodeModel g.D.Disk l.fn.self l.self
