use Rattle.std.proofs.Common.{◌≡◌, ◌≤◌, ◌++◌, drop, length}
use Rattle.lag_fix.specs.Lags.{lagging_of}
use Rattle.lag_fix.proofs.lags.lagging.Given as goal

abbrev pub invariant-loop-spot : goal.invariant-loop-spot
invariant-loop-spot l =
    (l.rows ++ lagging_of (drop l.spot-index l.spot-items) l.round l.lengths ≡ lagging_of l.spot-items l.round l.lengths)
    × (length l.rows ≤ l.spot-index)
