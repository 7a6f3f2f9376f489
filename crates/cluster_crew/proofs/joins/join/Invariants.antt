use Rattle.cluster_crew.specs.Crews.{MembersStay}
use Rattle.cluster_crew.proofs.joins.join.Given as goal

abbrev pub invariant-loop-place : goal.invariant-loop-place
invariant-loop-place g l = MembersStay g.N.NodeModel g.D.Disk l.fn.members l.members
