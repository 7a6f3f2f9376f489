use Rattle.std.proofs.Common.{◌≡◌, take}
use Rattle.fix_ante.specs.Windows.{spots_from}
use Rattle.fix_ante.proofs.window.first.Given as goal

abbrev pub invariant-loop-row : goal.invariant-loop-row
invariant-loop-row l = l.spots.items ≡ spots_from (λ _. 0) (take l.row-index l.row-items)
