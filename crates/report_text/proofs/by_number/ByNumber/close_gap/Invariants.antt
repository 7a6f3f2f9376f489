use Rattle.std.proofs.Common.{◌≡◌}
use Rattle.report_text.proofs.by_number.ByNumber.close_gap.Given as goal

abbrev pub invariant-loop-entry : goal.invariant-loop-entry
invariant-loop-entry g l = l.self ≡ l.initial.self
