use Rattle.std.proofs.Common.{arith}
use Rattle.cluster_crew.proofs.Crews.{ended_set, members_set, one_acts}
use Rattle.cluster_crew.proofs.steps.end_faults.Goals as goal

pub end_faults-requires : goal.end_faults-requires
end_faults-requires g c =
    one_acts g.N.NodeModel g.D.Disk c.args.members.now c.loop-place.members c.loop-place.place c.index-members-place.result c.requires
    c.loop-place.invariant.stays (omega arith)

pub loop-place-preserved : goal.loop-place-preserved
loop-place-preserved g c = record {
  stays = members_set g.N.NodeModel g.D.Disk c.args.members.now c.loop-place.members c.loop-place.place c.index-members-place.result c.end_faults.new.self
      c.loop-place.invariant.stays c.end_faults.ensures.stays;
  ended = ended_set g.N.NodeModel g.D.Disk c.loop-place.members c.loop-place.place c.end_faults.new.self (omega arith) c.loop-place.invariant.ended
      c.end_faults.ensures.ended;
}
