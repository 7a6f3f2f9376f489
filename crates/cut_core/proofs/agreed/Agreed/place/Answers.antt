use Rattle.std.proofs.Common.{◌≡◌, ◌<◌, length, Some, ◌∙◌, sym, subst}
use Rattle.std.specs.Option.{IfSome}
use Rattle.cut_core.specs.Map.{located}
use Rattle.cut_core.proofs.Standing.{placed_IfSome, placed_below}
use Rattle.cut_core.proofs.agreed.Agreed.place.Goals as goal

pub returns-clause-owner : goal.returns-clause-owner
returns-clause-owner c =
    let a = c.args.self.now in
    let found = c.in_ok-window_of.ensures.1.place ∙ sym c.place.ensures.place in
    subst (λ p. IfSome p (λ p. located a p ≡ Some (record { shard = c.args.shard; local = c.args.local }))) found (placed_IfSome a c.args.shard c.args.local)

pub returns-clause-below : goal.returns-clause-below
returns-clause-below c =
    let a = c.args.self.now in
    let found = c.in_ok-window_of.ensures.1.place ∙ sym c.place.ensures.place in
    subst (λ p. IfSome p (λ p. p < length a.covered)) found (placed_below a c.args.shard c.args.local)
