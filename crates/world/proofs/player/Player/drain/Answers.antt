use Rattle.std.proofs.Common.{◌≡◌, ℕ, suc, ◌+◌, ap, ◌∙◌, arith}
use Rattle.world.specs.inside.PlayerSteps.{drains_once, drains}
use Rattle.world.proofs.player.Player.drain.Goals as goal

pub loop-preserved : goal.loop-preserved
loop-preserved c =
    let next : suc c.loop.counter ≡ c.loop.counter + 1 = omega arith in
    c.in_ok-player.ensures ∙ ap drains_once c.loop.invariant ∙ ap (λ (n : ℕ). drains n c.args.self) next
