use Rattle.std.proofs.Common.{◌≡◌, take}
use Rattle.fix_ante.specs.Windows.{spots_from, start_after}
use Rattle.fix_ante.proofs.window.next.Given as goal

abbrev pub invariant-loop-row : goal.invariant-loop-row
invariant-loop-row l = l.spots.items ≡ spots_from (start_after l.fn.window.spots l.fn.window.rounds) (take l.row-index l.row-items)
