use Rattle.std.proofs.Common.{arith, subst}
use Rattle.world.specs.contracts.any_node.AnyNodeNodeModel.TheImpl.{ghosts as any_rules}
use Rattle.node_seats.specs.Seats.{AreSeated}
use Rattle.cluster_run.proofs.Seated.{crew_counts, looks_as_asked}
use Rattle.cluster_run.proofs.working.work.Goals as goal

pub end-requires-clause-places : goal.end-requires-clause-places
end-requires-clause-places g c =
    let (seats, each, begins) = c.requires.begins in (begins.places, c.follow-crew.ensures.stays.at begins.places begins.at, begins.fits)

pub end-requires-clause-room : goal.end-requires-clause-room
end-requires-clause-room g c =
    let (seats, each, begins) = c.requires.begins in
    let crew = c.follow-crew.result.0 in
    let at = c.follow-crew.ensures.stays.at begins.places begins.at in
    let counts = crew_counts any_rules g.D.Disk c.args.plan.now c.args.desks.now seats begins.places crew at begins.fits begins.seated in
    let room = c.requires.room in
    record {
      no_actors = room.no_actors;
      no_looks = room.no_looks;
      none_held = room.none_held;
      actors = omega (arith, counts.members, each, room.actors, crew.members.ok);
      looks = omega (arith, counts.readers, room.looks, crew.readers.ok);
      held = omega (arith, counts.submitters, room.held, crew.submitters.ok);
    }

pub returns-clause-seated : goal.returns-clause-seated
returns-clause-seated g c = λ seats begins.
    subst (λ s. AreSeated any_rules g.D.Disk s c.end.result.actors.items) begins.seated
    (c.end.ensures.seated begins.places (c.follow-crew.ensures.stays.at begins.places begins.at))

pub returns-clause-looks : goal.returns-clause-looks
returns-clause-looks g c =
    let (seats, each, begins) = c.requires.begins in
    looks_as_asked any_rules g.D.Disk c.args.plan.now c.args.desks.now begins.places c.follow-crew.result.0 c.end.result.looks.items
    (c.follow-crew.ensures.stays.at begins.places begins.at) begins.fits c.end.ensures.looks
