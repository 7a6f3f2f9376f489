use Rattle.std.proofs.Common.{◌≡◌, ◌*◌, ◌≤◌, ◌+◌, drop}
use Rattle.quota_table.specs.Tables.{quotas_of}
use Rattle.fix_ante.specs.Windows.{rows_of}
use Rattle.fix_ante.proofs.window.width_among.Given as goal

abbrev pub invariant-loop-spot : goal.invariant-loop-spot
invariant-loop-spot l = (l.total + quotas_of (rows_of (drop l.spot-index l.spots)) ≡ quotas_of (rows_of l.spots)) × (l.total ≤ 255 * l.spot-index)
