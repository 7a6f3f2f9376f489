use Rattle.std.proofs.Common.{take}
use Rattle.cluster_crew.specs.Crews.{AreFaultless, MembersStay}
use Rattle.cluster_crew.proofs.steps.end_faults.Given as goal

abbrev pub invariant-loop-place : goal.invariant-loop-place
invariant-loop-place g l = record {
  stays : MembersStay g.N.NodeModel g.D.Disk l.fn.members l.members;
  ended : AreFaultless (take l.place l.members);
}
