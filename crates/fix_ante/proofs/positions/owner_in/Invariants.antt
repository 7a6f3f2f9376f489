use Rattle.std.proofs.Common.{◌≡◌, ◌≤◌, drop}
use Rattle.fix_ante.specs.Positions.{owner_among}
use Rattle.fix_ante.proofs.positions.owner_in.Given as goal

abbrev pub invariant-loop-spot : goal.invariant-loop-spot
invariant-loop-spot l = (owner_among l.spot-items l.round l.at ≡ owner_among (drop l.spot-index l.spot-items) l.round l.left) × (l.left ≤ l.at)
