use Rattle.std.proofs.Common.{◌≡◌, ◌++◌, drop}
use Rattle.report_text.specs.inside.Consuming.{consumed_lines}
use Rattle.report_text.specs.inside.Gathering.{numbered_lines}
use Rattle.report_text.proofs.gathered.write_consumers.Given as goal

abbrev pub invariant-loop-number : goal.invariant-loop-number
invariant-loop-number l = l.text ++ numbered_lines (consumed_lines l.cfg) l.number (drop l.number l.consumers) ≡ l.fn.text ++ numbered_lines (consumed_lines l.cfg) 0 l.consumers
