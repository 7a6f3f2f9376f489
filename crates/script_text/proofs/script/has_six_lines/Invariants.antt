use Rattle.std.proofs.Common.{◌≡◌, ◌+◌, length}
use Rattle.script_text.specs.Lines.{left_of, counted_lines}
use Rattle.script_text.proofs.script.has_six_lines.Given as goal

abbrev pub invariant-loop-count : goal.invariant-loop-count
invariant-loop-count l = length (left_of l.lines) + l._count ≡ length (counted_lines l.text)
