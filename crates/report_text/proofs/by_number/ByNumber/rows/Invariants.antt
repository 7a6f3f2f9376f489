use Rattle.std.proofs.Common.{◌≡◌, ◌++◌, take}
use Rattle.report_text.specs.inside.Numbers.{numbered}
use Rattle.report_text.proofs.by_number.ByNumber.rows.Given as goal

abbrev pub invariant-loop-number : goal.invariant-loop-number
invariant-loop-number g l = l.rows.items ≡ numbered 0 (take l.number l.value-items)

abbrev pub invariant-loop-number-2 : goal.invariant-loop-number-2
invariant-loop-number-2 g l = l.rows.items ++ l.number-iterator ≡ l.fn.self
