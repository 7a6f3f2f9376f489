use Rattle.std.proofs.Common.{rules}
use Rattle.spec_delivery.proofs.LaneLemmas.{reach_raised}
use Rattle.spec_delivery.proofs.lane.Lane.raise.Goals as goal

pub invariant_of-self : goal.invariant_of-self
invariant_of-self c =
    (search rules, reach_raised c.self.inside.floor c.self.inside.end c.self.inside.held.entries _ c.self.invariant.1 c.remove.ensures.entries c.remove.ensures.updates.1, c.remove.ensures.ordered)
