use Rattle.std.proofs.Common.{IsTrue, ◌≡◌, ◌++◌, length}
use Rattle.script_text.specs.Lines.{numbers_of, left_of}
use Rattle.script_text.specs.Scripts.{ArePrintable}
use Rattle.script_text.specs.Reading.{inputs_in}
use Rattle.script_text.proofs.InputLemmas.{onto}
use Rattle.script_text.proofs.script.read_inputs.Given as goal

abbrev pub invariant-loop-line : goal.invariant-loop-line
invariant-loop-line l = record {
  inputs : onto l.inputs (inputs_in l.cfg (left_of l.lines)) ≡ inputs_in l.cfg (left_of l.fn.lines);
  printable : IsTrue l.plain → ArePrintable (left_of l.lines);
  numbers : l.numbers ++ numbers_of (left_of l.lines) ≡ numbers_of (left_of l.fn.lines);
}

abbrev pub decreases-loop-line : goal.decreases-loop-line
decreases-loop-line l = length l.lines.text
