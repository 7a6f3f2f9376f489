use Rattle.std.proofs.Common.{◌≡◌, ◌++◌, drop}
use Rattle.report_text.specs.inside.Summing.{summed_consumer}
use Rattle.report_text.specs.inside.Gathering.{numbered_lines}
use Rattle.report_text.proofs.gathered.summarize_consumers.Given as goal

abbrev pub invariant-loop-number : goal.invariant-loop-number
invariant-loop-number l =
    l.text ++ numbered_lines (summed_consumer l.cfg) l.number (drop l.number l.consumers) ≡ l.fn.text ++ numbered_lines (summed_consumer l.cfg) 0 l.consumers
