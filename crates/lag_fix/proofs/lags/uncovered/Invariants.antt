use Rattle.std.proofs.Common.{◌≡◌, drop}
use Rattle.lag_fix.specs.Lags.{is_uncovered}
use Rattle.lag_fix.proofs.lags.uncovered.Given as goal

abbrev pub invariant-loop-spot : goal.invariant-loop-spot
invariant-loop-spot l = is_uncovered (drop l.spot-index l.spot-items) l.round l.lengths ≡ is_uncovered l.spot-items l.round l.lengths
