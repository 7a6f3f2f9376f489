use Rattle.std.proofs.Common.{rules, arith}
use Rattle.cluster_crew.proofs.Crews.{members_set, one_turns}
use Rattle.cluster_crew.proofs.bodies.take_bodies.Goals as goal

pub take_all-left-requires-clause-at : goal.take_all-left-requires-clause-at
take_all-left-requires-clause-at g c =
    one_turns g.N.NodeModel g.D.Disk c.args.desks.now c.args.members.now c.loop-place.members c.loop-place.place _ c.requires.at
    c.loop-place.invariant.stays (omega arith)

pub loop-place-preserved : goal.loop-place-preserved
loop-place-preserved g c = record {
  stays = members_set g.N.NodeModel g.D.Disk c.args.members.now c.loop-place.members c.loop-place.place _ c.take_all-left.new.self c.loop-place.invariant.stays
      c.take_all-left.ensures.stays;
  left = search rules;
}
