use Rattle.cluster_crew.specs.Crews.{MembersStay}
use Rattle.cluster_crew.specs.Watching.{StaysReader}
use Rattle.cluster_crew.proofs.notes.tell_reader.Given as goal

abbrev pub invariant-loop-place : goal.invariant-loop-place
invariant-loop-place g l = record {
  members : MembersStay g.N.NodeModel g.D.Disk l.fn.members l.members;
  reader : StaysReader l.fn.reader l.reader;
}
