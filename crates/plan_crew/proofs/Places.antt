-- The places of a crew as a run begins.
use Rattle.std.proofs.Common.{◌≡◌, ℕ, ◌+◌, ◌*◌, ◌≤◌, true, List, [], ◌∷◌, map, length, Option, None, Some, refl, sym, ap, ◌∙◌, subst, arith, IsTrue}
use Rattle.std.specs.List.{AllByRecursion, AllZip}
use Rattle.std.specs.Prelude.{slice_get, IsSomeAnd}
use Rattle.std.proofs.lemmas.Option.{same_Some, none-some}
use Rattle.atomic_table.specs.Seated.{TableId}
use Rattle.logbook.specs.Pages.{Book}
use Rattle.view_cell.specs.Ends.{Showing}
use Rattle.submit_desk.specs.Passes.{DeskView}
use Rattle.spec_base.specs.declared.disk.Disk.{Ghosts as DiskRules}
use Rattle.msg_wire.specs.Names.{NodeId}
use Rattle.msg_wire.specs.Names.nodes
use Rattle.msg_wire.specs.Nodes.{is_client, number_of}
use Rattle.net_model.specs.declared.journal.Stamped.{Stamped}
use Rattle.net_model.specs.declared.model.NodeModel.{Ghosts as NodeRules}
use Rattle.node_actor.specs.declared.actor.NodeActor.{NodeActor}
use Rattle.node_actor.specs.Cores.{steps_of}
use Rattle.node_seats.specs.Seats.{Seat, AreSeated, IsSeated}
use Rattle.cluster_crew.specs.declared.member.Member.{Member}
use Rattle.cluster_crew.specs.declared.member.Side.{Side}
use Rattle.cluster_crew.specs.declared.member.Side.TheVariants as sides
use Rattle.cluster_crew.specs.Ending.{seats_of}
use Rattle.cluster_crew.specs.Posts.{Post, IsMemberAt, IsSideAt, AtDesk, HasShown}
use Rattle.cluster_crew.specs.Watching.{Watch, IsReaderAt, Watches, WatchesPosts, Source, IsSubmitterAt, SourceAtDesk}
use Rattle.cluster_users.specs.Reading.{Reading}
use Rattle.cluster_users.specs.Submitting.{Submitting, HasDesk, bodies_of}
use Rattle.plan_crew.proofs.Fitting.{IsSideOf, IsDeskSide, IsViewSide}
use Rattle.plan_crew.specs.Begins.{LooksAt, desk_side, view_side, member_of, members_of}

module _ {P : Type 0} where
  -- the desk and the view of a side, or else these
  abbrev desk_in : TableId → Side P → TableId
  desk_in desk sides.None = desk
  desk_in desk (sides.Client pass) = pass.desk
  desk_in desk (sides.Consumer showing) = desk

  abbrev cell_in : Book → Side P → Book
  cell_in cell sides.None = cell
  cell_in cell (sides.Client pass) = cell
  cell_in cell (sides.Consumer showing) = showing.published.cell

  abbrev post_of : TableId → Book → Seat → Side P → Post
  post_of desk cell seat s = record { seat = seat; desk = desk_in desk s; cell = cell_in cell s }

  -- the posts of nodes at these seats with these sides
  abbrev pub posts_of : TableId → Book → List Seat → List (Side P) → List Post
  posts_of desk cell [] beside = []
  posts_of desk cell (seat ∷ seats) [] = []
  posts_of desk cell (seat ∷ seats) (s ∷ beside) = post_of desk cell seat s ∷ posts_of desk cell seats beside

abbrev pub names_of : List Seat → List NodeId
names_of = map (λ (seat : Seat). seat.name)

-- ---- one node

module _ (P : Type 0) (desks : List DeskView) (publishers : List Showing) (desk : TableId) (cell : Book) where
  side_at : (name : NodeId) (seat : Seat) (s : Side P) → IsSideOf P desks publishers name s → IsSideAt (post_of desk cell seat s) s
  side_at (nodes.Seq number) seat s of = subst (λ s. IsSideAt (post_of desk cell seat s) s) (sym of) tt
  side_at (nodes.Shard number side) seat s of = subst (λ s. IsSideAt (post_of desk cell seat s) s) (sym of) tt
  side_at (nodes.Client number) seat s of = subst (λ s. IsSideAt (post_of desk cell seat s) s) (sym of.is) (refl, of.takes.1)
  side_at (nodes.Consumer number) seat s of = subst (λ s. IsSideAt (post_of desk cell seat s) s) (sym of.is) refl

  none_shown : (name : NodeId) (s : Side P) → IsSideOf P desks publishers name s → HasShown [] s
  none_shown (nodes.Seq number) s of = subst (HasShown []) (sym of) tt
  none_shown (nodes.Shard number side) s of = subst (HasShown []) (sym of) tt
  none_shown (nodes.Client number) s of = subst (HasShown []) (sym of.is) tt
  none_shown (nodes.Consumer number) s of = subst (HasShown []) (sym of.is) (λ well. (refl, of.unshown))

  some_and : {A : Type 0} (Q : A → Type 0) (o : Option A) (x : A) → o ≡ Some x → Q x → IsSomeAnd o Q
  some_and Q o x is holds = subst (λ o. IsSomeAnd o Q) (sym is) holds

  at_desk : (name : NodeId) (s : Side P) → IsSideOf P desks publishers name s → IsTrue (is_client name)
      → IsSomeAnd (slice_get desks (number_of name)) (λ (d : DeskView). d.desk ≡ desk_in desk s)
  at_desk (nodes.Seq number) s of client = absurd (cc)
  at_desk (nodes.Shard number side) s of client = absurd (cc)
  at_desk (nodes.Client number) s of client =
      some_and (λ (d : DeskView). d.desk ≡ desk_in desk s) (slice_get desks number) of.desk of.there (sym of.takes.0 ∙ ap (desk_in desk) (sym of.is))
  at_desk (nodes.Consumer number) s of client = absurd (cc)

  -- a reader's view is that of its consumer
  reads_there : (reader : Reading) (seat : Seat) (s : Side P) → LooksAt publishers reader → IsSideOf P desks publishers seat.name s
      → seat.name ≡ nodes.Consumer reader.consumer → reader.pass.cell ≡ cell_in cell s
  reads_there reader seat s looks of is = by (subst (λ n. IsSideOf P desks publishers n s) is of) where
    by : IsViewSide P desks publishers reader.consumer s → reader.pass.cell ≡ cell_in cell s
    by side =
        let there : IsSomeAnd (Some side.publisher) (λ (p : Showing). reader.pass.cell ≡ p.cell) =
        subst (λ o. IsSomeAnd o (λ (p : Showing). reader.pass.cell ≡ p.cell)) side.there looks in
        there ∙ ap (cell_in cell) (sym side.is)

  -- ---- all nodes

  pub at_desks : (seats : List Seat) (beside : List (Side P)) → AllZip (IsSideOf P desks publishers) (names_of seats) beside
      → AllByRecursion (AtDesk desks) (posts_of desk cell seats beside)
  at_desks [] beside of = tt
  at_desks (seat ∷ seats) [] of = tt
  at_desks (seat ∷ seats) (s ∷ beside) of = (at_desk seat.name s of.0, at_desks seats beside of.1)

  -- the members are at these posts, of which each has its seat
  module _ {N D : Type 0} (rules : NodeRules N) (disk : DiskRules D) where
    member_at : (name : NodeId) (seat : Seat) (node : NodeActor N D) (s : Side P) → IsSeated rules disk seat node → steps_of node.core ≡ []
        → IsSideOf P desks publishers name s → IsMemberAt rules disk (post_of desk cell seat s) (member_of node s)
    member_at name seat node s seated none of = record {
      seated = seated;
      side = side_at name seat s of;
      shown = λ going. subst (λ (steps : List Stamped). HasShown steps s) (sym none) (none_shown name s of);
    }

    pub members_at : (seats : List Seat) (actors : List (NodeActor N D)) (beside : List (Side P)) → AreSeated rules disk seats actors
        → AllByRecursion (λ (a : NodeActor N D). steps_of a.core ≡ []) actors → AllZip (IsSideOf P desks publishers) (names_of seats) beside
        → AllZip (IsMemberAt rules disk) (posts_of desk cell seats beside) (members_of actors beside)
    members_at [] [] beside seated none of = tt
    members_at [] (a ∷ actors) beside seated none of = absurd seated
    members_at (seat ∷ seats) [] beside seated none of = absurd seated
    members_at (seat ∷ seats) (a ∷ actors) [] seated none of = absurd of
    members_at (seat ∷ seats) (a ∷ actors) (s ∷ beside) seated none of =
        (member_at seat.name seat a s seated.0 none.0 of.0, members_at seats actors beside seated.1 none.1 of.1)

  pub seats_are : (seats : List Seat) (beside : List (Side P)) → AllZip (IsSideOf P desks publishers) (names_of seats) beside
      → seats_of (posts_of desk cell seats beside) ≡ seats
  seats_are [] beside of = refl
  seats_are (seat ∷ seats) [] of = absurd of
  seats_are (seat ∷ seats) (s ∷ beside) of = ap (λ l. seat ∷ l) (seats_are seats beside of.1)

  -- ---- readers and submitters

  abbrev watch_of : Reading → Watch
  watch_of reader = record { number = reader.number; consumer = reader.consumer; cell = reader.pass.cell }

  reader_watches : (reader : Reading) (seats : List Seat) (beside : List (Side P)) → LooksAt publishers reader
      → AllZip (IsSideOf P desks publishers) (names_of seats) beside → WatchesPosts (posts_of desk cell seats beside) (watch_of reader)
  reader_watches reader [] beside looks of = tt
  reader_watches reader (seat ∷ seats) [] looks of = tt
  reader_watches reader (seat ∷ seats) (s ∷ beside) looks of =
      (reads_there reader seat s looks of.0, reader_watches reader seats beside looks of.1)

  pub readers_watch : (readers : List Reading) (seats : List Seat) (beside : List (Side P)) → AllByRecursion (LooksAt publishers) readers
      → AllZip (IsSideOf P desks publishers) (names_of seats) beside
      → AllByRecursion (WatchesPosts (posts_of desk cell seats beside)) (map watch_of readers)
  readers_watch [] seats beside looks of = tt
  readers_watch (reader ∷ readers) seats beside looks of = (reader_watches reader seats beside looks.0 of, readers_watch readers seats beside looks.1 of)

abbrev pub watches_of : List Reading → List Watch
watches_of = map (λ (r : Reading). record { number = r.number; consumer = r.consumer; cell = r.pass.cell })

pub readers_at : (readers : List Reading) → AllZip IsReaderAt (watches_of readers) readers
readers_at [] = tt
readers_at (reader ∷ readers) = ((refl, refl, refl), readers_at readers)

pub consumers_are : (readers : List Reading) → map (λ (w : Watch). w.consumer) (watches_of readers) ≡ map (λ (r : Reading). r.consumer) readers
consumers_are [] = refl
consumers_are (reader ∷ readers) = ap (λ l. reader.consumer ∷ l) (consumers_are readers)

abbrev pub sources_of : List Submitting → List Source
sources_of = map (λ (s : Submitting). record { number = s.number; client = s.client; desk = s.desk; bodies = bodies_of s })

pub submitters_at : (submitters : List Submitting) → AllZip IsSubmitterAt (sources_of submitters) submitters
submitters_at [] = tt
submitters_at (s ∷ submitters) = ((refl, refl, refl, refl), submitters_at submitters)

pub clients_are : (submitters : List Submitting) → map (λ (s : Source). s.client) (sources_of submitters) ≡ map (λ (s : Submitting). s.client) submitters
clients_are [] = refl
clients_are (s ∷ submitters) = ap (λ l. s.client ∷ l) (clients_are submitters)

pub sources_at : (desks : List DeskView) (submitters : List Submitting) → AllByRecursion (HasDesk desks) submitters
    → AllByRecursion (SourceAtDesk desks) (sources_of submitters)
sources_at desks [] at = tt
sources_at desks (s ∷ submitters) at = (at.0, sources_at desks submitters at.1)
