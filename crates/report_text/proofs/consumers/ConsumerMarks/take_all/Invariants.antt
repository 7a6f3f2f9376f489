use Rattle.std.proofs.Common.{◌≡◌, fold, take}
use Rattle.report_text.specs.inside.Consuming.{with_own_mark}
use Rattle.report_text.proofs.consumers.ConsumerMarks.take_all.Given as goal

abbrev pub invariant-loop-mark : goal.invariant-loop-mark
invariant-loop-mark l = l.self ≡ fold (with_own_mark l.number l.start) l.initial.self (take l.mark-index l.marks)
