use Rattle.std.proofs.Common.{rules}
use Rattle.spec_delivery.specs.Lanes.{IsInReach}
use Rattle.spec_delivery.proofs.LaneLemmas.{all_insert, in_reach_along}
use Rattle.spec_delivery.proofs.lane.Lane.keep.Goals as goal

pub invariant_of-self-2 : goal.invariant_of-self-2
invariant_of-self-2 c =
    let here = in_reach_along _ _ c.self.view_is c.args.local c.requires in
    (c.self.invariant.0, rw c.in_ok-insert.ensures.entries (all_insert (IsInReach (record { floor = c.self.inside.floor; end = c.self.inside.end; held = c.self.inside.held.entries })) c.self.inside.held.entries c.args.local c.args.rec c.self.invariant.1 here), c.in_ok-insert.ensures.ordered)
