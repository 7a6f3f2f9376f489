use Rattle.std.proofs.Common.{◌≡◌}
use Rattle.world.specs.inside.PlayerSteps.{drains}
use Rattle.world.proofs.player.Player.drain.Given as goal

abbrev pub invariant-loop : goal.invariant-loop
invariant-loop l = l.player ≡ drains l.counter l.fn.self
