use Rattle.std.proofs.Common.{arith}
use Rattle.cluster_crew.proofs.Crews.{members_set, one_watched}
use Rattle.cluster_crew.proofs.notes.tell_reader.Goals as goal

pub tell_to-requires : goal.tell_to-requires
tell_to-requires g c =
    one_watched g.N.NodeModel g.D.Disk c.args.consumer c.args.members.now c.loop-place.members c.args.reader.now c.loop-place.reader
    c.loop-place.place c.index-members-place.result
    c.requires c.loop-place.invariant.members c.loop-place.invariant.reader (omega arith)

pub returns-in_err-tell_to-clause-members : goal.returns-in_err-tell_to-clause-members
returns-in_err-tell_to-clause-members g c =
    members_set g.N.NodeModel g.D.Disk c.args.members.now c.loop-place.members c.loop-place.place c.index-members-place.result c.tell_to.new.self
    c.loop-place.invariant.members
    c.tell_to.ensures.member

pub returns-in_err-tell_to-clause-reader : goal.returns-in_err-tell_to-clause-reader
returns-in_err-tell_to-clause-reader g c = λ watch at. c.tell_to.ensures.reader watch (c.loop-place.invariant.reader watch at)

pub loop-place-preserved : goal.loop-place-preserved
loop-place-preserved g c = record {
  members = members_set g.N.NodeModel g.D.Disk c.args.members.now c.loop-place.members c.loop-place.place c.index-members-place.result c.tell_to.new.self
      c.loop-place.invariant.members c.tell_to.ensures.member;
  reader = λ watch at. c.tell_to.ensures.reader watch (c.loop-place.invariant.reader watch at);
}
