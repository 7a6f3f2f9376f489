use Rattle.world.proofs.Stages.{goes_on}
use Rattle.world.proofs.scripts.play.Goals as goal

pub loop-at-preserved : goal.loop-at-preserved
loop-at-preserved c =
    goes_on c.args.cfg.now c.args.inputs.now c.loop-at.at c.loop-at.player c.in_ok-player-2.player c.index-inputs-at.result c.loop-at-test.true c.index-inputs-at.is c.in_ok-judge.ensures c.in_ok-player-2.ensures c.loop-at.invariant
