use Rattle.std.proofs.Common.{◌≡◌, take}
use Rattle.fix_ante.specs.Windows.{rows_of}
use Rattle.fix_ante.proofs.window.Window.table.Given as goal

abbrev pub invariant-loop-spot : goal.invariant-loop-spot
invariant-loop-spot l = l.rows.items ≡ rows_of (take l.spot-index l.spot-items)
