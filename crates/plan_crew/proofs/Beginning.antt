-- A crew as a run begins is at its places.
use Rattle.std.proofs.Common.{◌≡◌, ℕ, suc, ◌+◌, ◌*◌, ◌<◌, ◌≤◌, List, [], ◌∷◌, ◌++◌, map, length, replicate, refl, sym, ap, ◌∙◌, subst, arith}
use Rattle.std.specs.List.{AllByRecursion, AllZip}
use Rattle.std.proofs.lemmas.List.{length-append, length-map, length-replicate}
use Rattle.atomic_table.specs.Seated.{TableId}
use Rattle.logbook.specs.Pages.{Book}
use Rattle.view_cell.specs.Ends.{Showing}
use Rattle.submit_desk.specs.Passes.{DeskView}
use Rattle.spec_base.specs.declared.disk.Disk.{Ghosts as DiskRules}
use Rattle.msg_wire.specs.declared.config.Config.{Config}
use Rattle.msg_wire.specs.declared.plan.Plan.{Plan}
use Rattle.msg_wire.specs.Names.{NodeId}
use Rattle.msg_wire.specs.Nodes.{nodes_of}
use Rattle.msg_wire.specs.Valid.{IsValidPlan}
use Rattle.net_model.specs.declared.model.NodeModel.{Ghosts as NodeRules}
use Rattle.node_actor.specs.declared.actor.NodeActor.{NodeActor}
use Rattle.node_seats.proofs.Zips.{zip_length}
use Rattle.node_seats.specs.Seats.{Seat, AreSeated}
use Rattle.cluster_crew.specs.declared.crew.Crew.{Crew}
use Rattle.cluster_crew.specs.declared.member.Side.{Side}
use Rattle.cluster_crew.specs.declared.member.Side.TheVariants as sides
use Rattle.cluster_crew.specs.Posts.{IsMemberAt}
use Rattle.cluster_users.specs.Reading.{Reading}
use Rattle.cluster_users.specs.Submitting.{Submitting}
use Rattle.plan_desks.specs.declared.begun.Taker.{Taker}
use Rattle.plan_crew.proofs.Fitting.{IsSideOf, sides_fit}
use Rattle.plan_crew.proofs.Places.{names_of, posts_of, at_desks, members_at, seats_are, readers_watch, watches_of, readers_at, consumers_are, sources_of}
use Rattle.plan_crew.proofs.Places.{submitters_at, clients_are, sources_at}
use Rattle.plan_crew.specs.Begins.{AreNew, BeginsAt, BelongToPlan, TakesFrom, desk_side, view_side, sides_of, members_of}

module _ {N D : Type 0} where
  abbrev actor_names : List (NodeActor N D) → List NodeId
  actor_names = map (λ (a : NodeActor N D). a.core.name)

  same_names : (rules : NodeRules N) (disk : DiskRules D) (seats : List Seat) (actors : List (NodeActor N D)) → AreSeated rules disk seats actors
      → actor_names actors ≡ names_of seats
  same_names rules disk [] [] seated = refl
  same_names rules disk [] (a ∷ actors) seated = absurd seated
  same_names rules disk (seat ∷ seats) [] seated = absurd seated
  same_names rules disk (seat ∷ seats) (a ∷ actors) seated =
      ap (λ n. n ∷ actor_names actors) seated.0.name ∙ ap (λ l. seat.name ∷ l) (same_names rules disk seats actors seated.1)

-- a desk, and a view, that there is
first_desk : (desks : List DeskView) → 1 ≤ length desks → TableId
first_desk [] some = absurd (omega (arith, some))
first_desk (desk ∷ desks) some = desk.desk

first_cell : (publishers : List Showing) → 1 ≤ length publishers → Book
first_cell [] some = absurd (omega (arith, some))
first_cell (publisher ∷ publishers) some = publisher.cell

module _ {N D P : Type 0} (rules : NodeRules N) (disk : DiskRules D) where
  pub crew_begins : (plan : Plan) (desks : List DeskView) (seats : List Seat) (actors : List (NodeActor N D)) (takers : List Taker)
      (publishers : List Showing) (crew : Crew N D P) → IsValidPlan plan → AreNew plan.cfg actors
      → BelongToPlan plan desks takers publishers crew.readers.items crew.submitters.items → AreSeated rules disk seats actors
      → crew.members.items ≡ members_of actors (sides_of (plan.cfg.seqs + 2 * plan.cfg.shards) takers publishers)
      → BeginsAt rules disk plan desks seats crew
  crew_begins plan desks seats actors takers publishers crew valid new belong seated members_are =
      let some_desk : 1 ≤ length desks = omega (arith, belong.desks_each, valid.cfg.some_client) in
      let some_view : 1 ≤ length publishers = omega (arith, belong.views_each, valid.cfg.some_consumer) in
      let desk = first_desk desks some_desk in
      let cell = first_cell publishers some_view in
      let beside : List (Side P) = sides_of (plan.cfg.seqs + 2 * plan.cfg.shards) takers publishers in
      let names : nodes_of plan.cfg ≡ names_of seats = sym new.names ∙ same_names rules disk seats actors seated in
      let fit : AllZip (IsSideOf P desks publishers) (names_of seats) beside =
      subst (λ l. AllZip (IsSideOf P desks publishers) l beside) names
      (sides_fit P desks publishers plan.cfg takers belong.desks_each belong.takers_from belong.views_each belong.unshown) in
      record {
        places = record {
          posts = posts_of desk cell seats beside;
          watches = watches_of crew.readers.items;
          sources = sources_of crew.submitters.items;
        };
        at = record {
          members = subst (AllZip (IsMemberAt rules disk) (posts_of desk cell seats beside)) (sym members_are)
              (members_at P desks publishers desk cell rules disk seats actors beside seated new.none fit);
          readers = readers_at crew.readers.items;
          submitters = submitters_at crew.submitters.items;
        };
        fits = record {
          desks_at = at_desks P desks publishers desk cell seats beside fit;
          readers = consumers_are crew.readers.items ∙ belong.consumers;
          cells = readers_watch P desks publishers desk cell crew.readers.items seats beside belong.look_at fit;
          submitters = clients_are crew.submitters.items ∙ belong.clients;
          sources_at = sources_at desks crew.submitters.items belong.submit_to;
        };
        seated = seats_are P desks publishers desk cell seats beside fit;
      }

-- there are as many sides as nodes
pub as_many : {N D : Type 0} (P : Type 0) (plan : Plan) (desks : List DeskView) (actors : List (NodeActor N D)) (takers : List Taker)
    (publishers : List Showing) (readers : List Reading) (submitters : List Submitting) → AreNew plan.cfg actors
    → BelongToPlan plan desks takers publishers readers submitters
    → plan.cfg.seqs + 2 * plan.cfg.shards + length takers + length publishers ≡ length actors
as_many P plan desks actors takers publishers readers submitters new belong =
    let bare = plan.cfg.seqs + 2 * plan.cfg.shards in
    let fit = sides_fit P desks publishers plan.cfg takers belong.desks_each belong.takers_from belong.views_each belong.unshown in
    let each = zip_length (IsSideOf P desks publishers) (nodes_of plan.cfg) (sides_of bare takers publishers) fit in
    let named = ap length new.names in
    let of_names = length-map actors (λ a. a.core.name) in
    let nothing : Side P = sides.None in
    let front = length-append (replicate bare nothing) (map desk_side takers ++ map view_side publishers) in
    let back = length-append (map (desk_side {P = P}) takers) (map view_side publishers) in
    let nones = length-replicate bare nothing in
    let desk_count = length-map takers (desk_side {P = P}) in
    let view_count = length-map publishers (view_side {P = P}) in
    omega (arith, each, named, of_names, front, back, nones, desk_count, view_count)
