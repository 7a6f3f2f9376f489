use Rattle.std.proofs.Common.{◌≤◌}
use Rattle.cluster_crew.specs.Crews.{MembersStay}
use Rattle.cluster_crew.proofs.bodies.take_bodies.Given as goal

abbrev pub invariant-loop-place : goal.invariant-loop-place
invariant-loop-place g l = record {
  stays : MembersStay g.N.NodeModel g.D.Disk l.fn.members l.members;
  left : l.left ≤ l.limit;
}
