use Rattle.std.proofs.Common.{◌≡◌, map, take, drop, []}
use Rattle.quota_table.specs.Tables.{asked_row, rows_fault}
use Rattle.quota_table.proofs.table.check.Given as goal

abbrev pub invariant-loop-i : goal.invariant-loop-i
invariant-loop-i l =
    (l.kept.items ≡ map asked_row (take l.i l.rows)) × (rows_fault [] l.rows ≡ rows_fault (take l.i l.rows) (drop l.i l.rows))
