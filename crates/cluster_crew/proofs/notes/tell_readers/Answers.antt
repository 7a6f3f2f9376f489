use Rattle.std.proofs.Common.{arith}
use Rattle.cluster_crew.specs.Watching.{IsReaderAt}
use Rattle.cluster_crew.proofs.Crews.{as_many, members_then, one_watching}
use Rattle.cluster_crew.proofs.Lists.{stay_set}
use Rattle.cluster_crew.proofs.notes.tell_readers.Goals as goal

pub bounds-consumers-place : goal.bounds-consumers-place
bounds-consumers-place g c =
    let many = as_many g.N.NodeModel g.D.Disk c.args.consumers.now c.args.members.now c.args.readers.now c.loop-place.readers c.requires
    c.loop-place.invariant.readers in
    omega (arith, many)

pub tell_reader-requires : goal.tell_reader-requires
tell_reader-requires g c =
    one_watching g.N.NodeModel g.D.Disk c.args.consumers.now c.args.members.now c.loop-place.members c.args.readers.now c.loop-place.readers
    c.loop-place.place _ _
    c.requires c.loop-place.invariant.members c.loop-place.invariant.readers (omega arith)

pub returns-in_err-tell_reader-clause-members : goal.returns-in_err-tell_reader-clause-members
returns-in_err-tell_reader-clause-members g c =
    members_then g.N.NodeModel g.D.Disk c.args.members.now c.loop-place.members c.tell_reader.new.members c.loop-place.invariant.members
    c.tell_reader.ensures.members

pub returns-in_err-tell_reader-clause-readers : goal.returns-in_err-tell_reader-clause-readers
returns-in_err-tell_reader-clause-readers g c =
    stay_set IsReaderAt c.args.readers.now c.loop-place.readers c.loop-place.place _ c.tell_reader.new.reader c.loop-place.invariant.readers
    c.tell_reader.ensures.reader

pub loop-place-preserved : goal.loop-place-preserved
loop-place-preserved g c = record {
  members = members_then g.N.NodeModel g.D.Disk c.args.members.now c.loop-place.members c.tell_reader.new.members c.loop-place.invariant.members
      c.tell_reader.ensures.members;
  readers = stay_set IsReaderAt c.args.readers.now c.loop-place.readers c.loop-place.place _ c.tell_reader.new.reader c.loop-place.invariant.readers
      c.tell_reader.ensures.reader;
}
