use Rattle.spec_delivery.proofs.LaneLemmas.{reach_along}
use Rattle.spec_delivery.proofs.lane.Lane.at.Goals as goal

pub returns-clause-reach : goal.returns-clause-reach
returns-clause-reach c = reach_along _ _ c.self.view_is c.self.invariant.1 c.args.local
