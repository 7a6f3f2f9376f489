use Rattle.std.proofs.Common.{◌≡◌, drop}
use Rattle.cut_core.specs.Agreements.{gone_row}
use Rattle.cut_core.proofs.agreed.Agreed.gone_row.Given as goal

abbrev pub invariant-loop-row : goal.invariant-loop-row
invariant-loop-row l = gone_row l.self l.row-items ≡ gone_row l.self (drop l.row-index l.row-items)
