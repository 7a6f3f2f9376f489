use Rattle.std.proofs.Common.{arith}
use Rattle.cluster_crew.proofs.Crews.{members_itself, members_set, one_acts, only_itself, only_set}
use Rattle.cluster_crew.proofs.steps.restart.Goals as goal

pub restart_if-requires : goal.restart_if-requires
restart_if-requires g c =
    one_acts g.N.NodeModel g.D.Disk c.args.members.now c.loop-place.members c.loop-place.place c.index-members-place.result c.requires
    c.loop-place.invariant.stays (omega arith)

pub loop-place-init : goal.loop-place-init
loop-place-init g c = record {
  stays = members_itself g.N.NodeModel g.D.Disk c.args.members.now;
  others = only_itself c.args.node c.args.members.now;
}

pub loop-place-preserved : goal.loop-place-preserved
loop-place-preserved g c = record {
  stays = members_set g.N.NodeModel g.D.Disk c.args.members.now c.loop-place.members c.loop-place.place c.index-members-place.result
      c.restart_if.new.self c.loop-place.invariant.stays c.restart_if.ensures.stays;
  others = only_set c.args.node c.args.members.now c.loop-place.members c.loop-place.place c.index-members-place.result c.restart_if.new.self
      c.loop-place.invariant.others c.restart_if.ensures.others;
}
