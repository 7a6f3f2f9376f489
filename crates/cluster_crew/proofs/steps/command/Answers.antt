use Rattle.std.proofs.Common.{arith}
use Rattle.cluster_crew.proofs.Crews.{members_itself, members_set, one_acts, only_itself, only_set}
use Rattle.cluster_crew.proofs.steps.command.Goals as goal

pub command_if-requires-clause-acts : goal.command_if-requires-clause-acts
command_if-requires-clause-acts g c =
    one_acts g.N.NodeModel g.D.Disk c.args.members.now c.loop-place.members c.loop-place.place c.index-members-place.result c.requires.at
    c.loop-place.invariant.stays (omega arith)

pub returns-in_err-command_if-clause-stays : goal.returns-in_err-command_if-clause-stays
returns-in_err-command_if-clause-stays g c =
    members_set g.N.NodeModel g.D.Disk c.args.members.now c.loop-place.members c.loop-place.place c.index-members-place.result
    c.command_if.new.self c.loop-place.invariant.stays c.command_if.ensures.stays

pub returns-in_err-command_if-clause-others : goal.returns-in_err-command_if-clause-others
returns-in_err-command_if-clause-others g c =
    only_set c.args.node c.args.members.now c.loop-place.members c.loop-place.place c.index-members-place.result c.command_if.new.self
    c.loop-place.invariant.others c.command_if.ensures.others

pub loop-place-init : goal.loop-place-init
loop-place-init g c = record {
  stays = members_itself g.N.NodeModel g.D.Disk c.args.members.now;
  others = only_itself c.args.node c.args.members.now;
}

pub loop-place-preserved : goal.loop-place-preserved
loop-place-preserved g c = record {
  stays = members_set g.N.NodeModel g.D.Disk c.args.members.now c.loop-place.members c.loop-place.place c.index-members-place.result
      c.command_if.new.self c.loop-place.invariant.stays c.command_if.ensures.stays;
  others = only_set c.args.node c.args.members.now c.loop-place.members c.loop-place.place c.index-members-place.result c.command_if.new.self
      c.loop-place.invariant.others c.command_if.ensures.others;
}
