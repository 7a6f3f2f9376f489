use Rattle.std.proofs.Common.{◌≡◌, ◌≤◌, ◌++◌, drop, length}
use Rattle.fix_ante.specs.Windows.{spots_without}
use Rattle.fix_ante.proofs.window.without.Given as goal

abbrev pub invariant-loop-spot : goal.invariant-loop-spot
invariant-loop-spot l =
    (l.spots.items ++ spots_without (drop l.spot-index l.spot-items) l.covered l.shard ≡ spots_without l.spot-items l.covered l.shard)
    × (length l.spots.items ≤ l.spot-index)
