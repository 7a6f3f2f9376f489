use Rattle.std.proofs.Common.{ℕ, ◌<◌, sym, subst}
use Rattle.std.specs.List.{AllByRecursion}
use Rattle.plan_views.proofs.begun.begin_views.Goals as goal

pub watching-requires-clause-consumers : goal.watching-requires-clause-consumers
watching-requires-clause-consumers g c =
    subst (λ (n : ℕ). AllByRecursion (λ (consumer : ℕ). consumer < n) c.args.readers.now) (sym c.in_ok-publishers.ensures.same) c.requires.consumers
