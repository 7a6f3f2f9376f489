use Rattle.std.proofs.Common.{IsTrue, ◌≡◌, ◌≤◌, length}
use Rattle.script_text.specs.Lines.{left_of}
use Rattle.script_text.specs.Scripts.{ArePrintable}
use Rattle.script_text.specs.ReadingPlans.{plan_lines_in}
use Rattle.script_text.proofs.PlanLemmas.{before}
use Rattle.script_text.proofs.plan.read_lines.Given as goal

abbrev pub invariant-loop-line : goal.invariant-loop-line
invariant-loop-line l = record {
  read : before l.read (plan_lines_in l.plan l.entries (left_of l.lines)) ≡ plan_lines_in l.plan l.plan.limit (left_of l.fn.lines);
  printable : IsTrue l.plain → ArePrintable (left_of l.lines);
  within : l.entries ≤ 200000;
}

abbrev pub decreases-loop-line : goal.decreases-loop-line
decreases-loop-line l = length l.lines.text
