-- The desks, submitters, views and readers that are made for a plan belong to it.
use Rattle.std.proofs.Common.{◌≡◌, ℕ, suc, List, [], ◌∷◌, map, refl, sym, ap, ◌∙◌, subst}
use Rattle.std.specs.List.{AllByRecursion, AllZip}
use Rattle.std.specs.Prelude.{IsSomeAnd}
use Rattle.submit_desk.specs.Passes.{DeskView}
use Rattle.view_cell.specs.declared.look.Look.{Look}
use Rattle.view_cell.specs.Ends.{Showing}
use Rattle.msg_wire.specs.declared.plan.PlanLine.{PlanLine}
use Rattle.cluster_users.specs.Reading.{Reading}
use Rattle.cluster_users.specs.Submitting.{Submitting, HasDesk}
use Rattle.cluster_crew.specs.Marks.{counts_in}
use Rattle.plan_desks.specs.declared.begun.Taker.{Taker}
use Rattle.plan_desks.specs.Desks.{AreBegun, IsTaking}
use Rattle.plan_views.specs.Views.{AreWatching, IsOpened, IsOpening}
use Rattle.plan_crew.specs.Begins.{IsUnshown, LooksAt, TakesFrom}
use Rattle.cluster_run.specs.Beginning.{IsFirst}

-- ---- desks

pub takers_from : (next : ℕ) (desks : List DeskView) (takers : List Taker) → AllZip (IsTaking next) desks takers → AllZip TakesFrom desks takers
takers_from next [] [] all = tt
takers_from next [] (t ∷ takers) all = absurd all
takers_from next (d ∷ desks) [] all = absurd all
takers_from next (d ∷ desks) (t ∷ takers) all = ((all.0.desk, ap (λ k. k.takes) all.0.knows), takers_from next desks takers all.1)

pub clients_as_asked : (desks : List DeskView) (lines : List PlanLine) (number : ℕ) (clients : List ℕ) (submitters : List Submitting)
    → AreBegun desks lines number clients submitters → map (λ (s : Submitting). s.client) submitters ≡ clients
clients_as_asked desks lines number [] [] begun = refl
clients_as_asked desks lines number [] (s ∷ later) begun = absurd begun
clients_as_asked desks lines number (client ∷ clients) [] begun = absurd begun
clients_as_asked desks lines number (client ∷ clients) (s ∷ later) (desk, there, is, begun) =
    ap (λ c. c ∷ map (λ (x : Submitting). x.client) later) (ap (λ (x : Submitting). x.client) is)
    ∙ ap (λ l. client ∷ l) (clients_as_asked desks lines (suc number) clients later begun)

pub desks_as_asked : (desks : List DeskView) (lines : List PlanLine) (number : ℕ) (clients : List ℕ) (submitters : List Submitting)
    → AreBegun desks lines number clients submitters → AllByRecursion (HasDesk desks) submitters
desks_as_asked desks lines number [] [] begun = tt
desks_as_asked desks lines number [] (s ∷ later) begun = absurd begun
desks_as_asked desks lines number (client ∷ clients) [] begun = absurd begun
desks_as_asked desks lines number (client ∷ clients) (s ∷ later) (desk, there, is, begun) = (
  subst (HasDesk desks) (sym is) (subst (λ o. IsSomeAnd o (λ (d : DeskView). d.desk ≡ desk.desk)) (sym there) refl),
  desks_as_asked desks lines (suc number) clients later begun,
)

-- ---- views

pub all_open : (openings : List Look) → AllByRecursion IsFirst openings → AllByRecursion IsOpening openings
all_open [] first = tt
all_open (look ∷ openings) first = (ap (λ c. c.ops) first.0, all_open openings first.1)

pub all_unshown : (openings : List Look) (publishers : List Showing) → AllZip IsOpened openings publishers → AllByRecursion IsFirst openings
    → AllByRecursion IsUnshown publishers
all_unshown [] [] opened first = tt
all_unshown [] (p ∷ publishers) opened first = absurd opened
all_unshown (look ∷ openings) [] opened first = absurd opened
all_unshown (look ∷ openings) (p ∷ publishers) opened first =
    (ap (λ (q : Showing). counts_in q.newest) opened.0 ∙ first.0, all_unshown openings publishers opened.1 first.1)

pub consumers_as_asked : (views : List Showing) (number : ℕ) (consumers : List ℕ) (readers : List Reading) → AreWatching views number consumers readers
    → map (λ (r : Reading). r.consumer) readers ≡ consumers
consumers_as_asked views number [] [] watch = refl
consumers_as_asked views number [] (r ∷ later) watch = absurd watch
consumers_as_asked views number (consumer ∷ consumers) [] watch = absurd watch
consumers_as_asked views number (consumer ∷ consumers) (r ∷ later) (p, there, is, watch) =
    ap (λ c. c ∷ map (λ (x : Reading). x.consumer) later) (ap (λ (x : Reading). x.consumer) is)
    ∙ ap (λ l. consumer ∷ l) (consumers_as_asked views (suc number) consumers later watch)

pub looks_as_asked : (views : List Showing) (number : ℕ) (consumers : List ℕ) (readers : List Reading) → AreWatching views number consumers readers
    → AllByRecursion (LooksAt views) readers
looks_as_asked views number [] [] watch = tt
looks_as_asked views number [] (r ∷ later) watch = absurd watch
looks_as_asked views number (consumer ∷ consumers) [] watch = absurd watch
looks_as_asked views number (consumer ∷ consumers) (r ∷ later) (p, there, is, watch) = (
  subst (LooksAt views) (sym is) (subst (λ o. IsSomeAnd o (λ (q : Showing). p.cell ≡ q.cell)) (sym there) refl),
  looks_as_asked views (suc number) consumers later watch,
)
