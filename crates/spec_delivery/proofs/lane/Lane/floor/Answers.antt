use Rattle.spec_delivery.proofs.LaneLemmas.{few_along}
use Rattle.spec_delivery.proofs.lane.Lane.floor.Goals as goal

pub returns-clause-few : goal.returns-clause-few
returns-clause-few c = few_along _ _ c.self.view_is c.self.invariant.1 c.self.invariant.2
