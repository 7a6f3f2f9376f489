use Rattle.std.proofs.Common.{◌≡◌, ◌++◌, drop}
use Rattle.report_text.specs.inside.Submitting.{submitted_lines}
use Rattle.report_text.specs.inside.Gathering.{numbered_lines}
use Rattle.report_text.proofs.gathered.write_clients.Given as goal

abbrev pub invariant-loop-number : goal.invariant-loop-number
invariant-loop-number l = l.text ++ numbered_lines submitted_lines l.number (drop l.number l.clients) ≡ l.fn.text ++ numbered_lines submitted_lines 0 l.clients
