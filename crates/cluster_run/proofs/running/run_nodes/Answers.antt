use Rattle.std.proofs.Common.{arith, subst, sym, ap, ◌∙◌}
use Rattle.world.specs.contracts.any_node.AnyNodeNodeModel.TheImpl.{ghosts as any_rules}
use Rattle.msg_wire.specs.Nodes.{nodes_of}
use Rattle.node_seats.proofs.Zips.{zip_length}
use Rattle.node_seats.specs.Seats.{AreSeated, IsSeated, journals_of}
use Rattle.cluster_seats.specs.Seatings.{seats_of}
use Rattle.plan_crew.specs.Begins.{BeginsAt}
use Rattle.cluster_run.specs.Answers.{disks_of}
use Rattle.cluster_run.specs.Beginning.{counts_of}
use Rattle.cluster_run.proofs.Draining.{ended_first}
use Rattle.cluster_run.proofs.Seated.{actor_count, all_lent, seats_as_made, sitting_are_new}
use Rattle.cluster_run.proofs.running.run_nodes.Goals as goal

pub begin_crew-crew-requires-clause-new : goal.begin_crew-crew-requires-clause-new
begin_crew-crew-requires-clause-new g c =
    sitting_are_new any_rules g.D.Disk c.args.plan.now.cfg (counts_of g.D.Disk c.args.vaults.items) c.seat-actors.result.items c.seat-actors.ensures

pub begin_crew-crew-requires-clause-room : goal.begin_crew-crew-requires-clause-room
begin_crew-crew-requires-clause-room g c =
    let cfg = c.args.plan.now.cfg in
    let each = actor_count any_rules g.D.Disk cfg (nodes_of cfg) (counts_of g.D.Disk c.args.vaults.items) c.seat-actors.result.items c.seat-actors.ensures in
    let room = c.requires.rooms.crew in
    record {
      no_sides = room.no_sides;
      no_members = room.no_members;
      sides = omega (arith, each, room.sides, c.seat-actors.result.ok);
      members = omega (arith, each, room.members, c.seat-actors.result.ok);
    }

pub work-ended-requires-clause-begins : goal.work-ended-requires-clause-begins
work-ended-requires-clause-begins g c = λ κs within.
    let plan = c.args.plan.now in
    let actors = c.seat-actors.result.items in
    let counts = counts_of g.D.Disk c.args.vaults.items in
    let seats = seats_of counts actors in
    let each = actor_count any_rules g.D.Disk plan.cfg (nodes_of plan.cfg) counts actors c.seat-actors.ensures in (
      seats,
      zip_length (IsSeated any_rules g.D.Disk) seats actors c.seat-actors.ensures.seated ∙ each,
      subst (λ d. BeginsAt any_rules g.D.Disk plan d seats c.begin_crew-crew.result) (sym c.as_slice.ensures.value)
          (c.begin_crew-crew.ensures.at c.args.users.desks.items seats c.requires.users c.seat-actors.ensures.seated),
    )

pub close-quiet-requires : goal.close-quiet-requires
close-quiet-requires g c =
    let plan = c.args.plan.now in
    let seats = seats_of (counts_of g.D.Disk c.args.vaults.items) c.seat-actors.result.items in
    let begins = subst (λ d. BeginsAt any_rules g.D.Disk plan d seats c.begin_crew-crew.result) (sym c.as_slice.ensures.value)
    (c.begin_crew-crew.ensures.at c.args.users.desks.items seats c.requires.users c.seat-actors.ensures.seated) in (
      plan.cfg,
      seats,
      c.seat-actors.ensures.seats,
      subst (AreSeated any_rules g.D.Disk seats) (sym c.as_mut_slice.ensures.value) (c.work-ended.ensures.seated seats begins),
    )

pub apart-journals-requires-clause-room : goal.apart-journals-requires-clause-room
apart-journals-requires-clause-room g c =
    let plan = c.args.plan.now in
    let seats = seats_of (counts_of g.D.Disk c.args.vaults.items) c.seat-actors.result.items in
    let begins = subst (λ d. BeginsAt any_rules g.D.Disk plan d seats c.begin_crew-crew.result) (sym c.as_slice.ensures.value)
    (c.begin_crew-crew.ensures.at c.args.users.desks.items seats c.requires.users c.seat-actors.ensures.seated) in
    let before = zip_length (IsSeated any_rules g.D.Disk) seats c.seat-actors.result.items c.seat-actors.ensures.seated in
    let after = zip_length (IsSeated any_rules g.D.Disk) seats c.work-ended.result.0.actors.items (c.work-ended.ensures.seated seats begins) in
    let each = actor_count any_rules g.D.Disk plan.cfg (nodes_of plan.cfg) (counts_of g.D.Disk c.args.vaults.items) c.seat-actors.result.items
    c.seat-actors.ensures in
    let rooms = c.requires.rooms in
    let ok = c.work-ended.result.0.actors.ok in
    (omega (arith, before, after, each, rooms.journals, ok), omega (arith, before, after, each, rooms.disks, ok))

pub returns-clause-ran : goal.returns-clause-ran
returns-clause-ran g c =
    let plan = c.args.plan.now in
    let seats = seats_of (counts_of g.D.Disk c.args.vaults.items) c.seat-actors.result.items in
    let begins = subst (λ d. BeginsAt any_rules g.D.Disk plan d seats c.begin_crew-crew.result) (sym c.as_slice.ensures.value)
    (c.begin_crew-crew.ensures.at c.args.users.desks.items seats c.requires.users c.seat-actors.ensures.seated) in
    let came = subst (AreSeated any_rules g.D.Disk seats) (sym c.as_mut_slice.ensures.value) (c.work-ended.ensures.seated seats begins) in
    let seated = c.close-quiet.ensures.seated seats came in
    let before = zip_length (IsSeated any_rules g.D.Disk) seats c.work-ended.result.0.actors.items (c.work-ended.ensures.seated seats begins) in
    let after = zip_length (IsSeated any_rules g.D.Disk) seats c.close-quiet.new.actors seated in
    let whole = all_lent c.work-ended.result.0.actors.len c.close-quiet.new.actors c.work-ended.result.0.actors.items
    (omega (arith, before, after, c.work-ended.result.0.actors.ok)) in
    record {
      seats = seats;
      actors = c.close-quiet.new.actors;
      are = c.seat-actors.ensures.seats;
      of = seats_as_made any_rules g.D.Disk plan.cfg (nodes_of plan.cfg) c.args.vaults.items c.seat-actors.result.items c.requires.each c.seat-actors.ensures;
      seated = seated;
      settled = c.close-quiet.ensures.settled;
      journals_are = c.apart-journals.ensures.journals ∙ ap journals_of whole;
      disks_are = c.apart-journals.ensures.disks ∙ ap disks_of whole;
      ended = ended_first c.close-quiet.new.actors c.close-quiet.result.stop c.first_of.result c.work-ended.result.1 c.first_of.ensures
          c.close-quiet.ensures.ended;
    }
