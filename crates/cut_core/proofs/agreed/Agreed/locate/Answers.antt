use Rattle.std.proofs.Common.{◌≡◌, Some, ◌∙◌, sym, subst}
use Rattle.std.specs.Option.{IfSome}
use Rattle.fix_ante.specs.declared.spots.Owner.{Owner}
use Rattle.cut_core.specs.Map.{placed}
use Rattle.cut_core.proofs.Standing.{located_IfSome}
use Rattle.cut_core.proofs.agreed.Agreed.locate.Goals as goal

pub returns-clause-place : goal.returns-clause-place
returns-clause-place c =
    let a = c.args.self.now in
    let found = c.in_ok-window_at.ensures.window.1.owner ∙ sym c.owner.ensures.owner in
    subst (λ o. IfSome o (λ (o : Owner). placed a o.shard o.local ≡ Some c.args.position)) found (located_IfSome a c.args.position c.window_at.ensures.sound)
