use Rattle.world.proofs.Stages.{IsPlayedTo}
use Rattle.world.proofs.scripts.play.Given as goal

abbrev pub invariant-loop-at : goal.invariant-loop-at
invariant-loop-at l = IsPlayedTo l.cfg l.inputs l.at l.player
