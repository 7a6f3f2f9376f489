use Rattle.std.proofs.Common.{◌∙◌}
use Rattle.node_actor.proofs.links.pull_between.Goals as goal

pub loop-place-preserved : goal.loop-place-preserved
loop-place-preserved c = c.in-None.ensures.none ∙ c.loop-place.invariant
