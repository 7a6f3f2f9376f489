use Rattle.std.proofs.Common.{◌≡◌, ◌*◌, ◌≤◌, ◌+◌, drop}
use Rattle.quota_table.specs.Tables.{quotas_of}
use Rattle.quota_table.proofs.table.sum.Given as goal

abbrev pub invariant-loop-row : goal.invariant-loop-row
invariant-loop-row l = (l.total + quotas_of (drop l.row-index l.row-items) ≡ quotas_of l.row-items) × (l.total ≤ 255 * l.row-index)
