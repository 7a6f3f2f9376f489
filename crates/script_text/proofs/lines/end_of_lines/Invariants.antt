use Rattle.script_text.proofs.CutLemmas.{IsEndOf}
use Rattle.script_text.proofs.lines.end_of_lines.Given as goal

abbrev pub invariant-loop-line : goal.invariant-loop-line
invariant-loop-line l = IsEndOf l.text l.at l._line
