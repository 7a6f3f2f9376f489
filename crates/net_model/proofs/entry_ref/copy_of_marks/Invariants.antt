use Rattle.std.proofs.Common.{◌≡◌, take}
use Rattle.net_model.proofs.entry_ref.copy_of_marks.Given as goal

abbrev pub invariant-loop-mark : goal.invariant-loop-mark
invariant-loop-mark l = l.copy ≡ take l.mark-index l.marks
