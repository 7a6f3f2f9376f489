use Rattle.std.proofs.Common.{◌≡◌, take}
use Rattle.report_text.specs.inside.Confirming.{with_marks}
use Rattle.report_text.proofs.positions.ConfirmedLog.take_all.Given as goal

abbrev pub invariant-loop-mark : goal.invariant-loop-mark
invariant-loop-mark l = l.self ≡ with_marks l.initial.self (take l.mark-index l.marks)
