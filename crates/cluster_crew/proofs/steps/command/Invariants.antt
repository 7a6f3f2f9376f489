use Rattle.cluster_crew.specs.Crews.{MembersStay, OnlyAt}
use Rattle.cluster_crew.proofs.steps.command.Given as goal

abbrev pub invariant-loop-place : goal.invariant-loop-place
invariant-loop-place g l = record {
  stays : MembersStay g.N.NodeModel g.D.Disk l.fn.members l.members;
  others : OnlyAt l.node l.fn.members l.members;
}
