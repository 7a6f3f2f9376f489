use Rattle.std.proofs.Common.{◌≡◌, ◌++◌, drop}
use Rattle.runs.specs.Marks.{acks}
use Rattle.report_text.proofs.clients.put_acks.Given as goal

abbrev pub invariant-loop-mark : goal.invariant-loop-mark
invariant-loop-mark l = l.acked.items ++ acks (drop l.mark-index l.marks) ≡ l.fn.acked.items ++ acks l.marks
