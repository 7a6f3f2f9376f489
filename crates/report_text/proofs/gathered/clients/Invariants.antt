use Rattle.std.proofs.Common.{◌≡◌, replicate}
use Rattle.report_text.specs.inside.Submitting.{nothing_submitted}
use Rattle.report_text.proofs.gathered.clients.Given as goal

abbrev pub invariant-loop-number : goal.invariant-loop-number
invariant-loop-number l = l.all.items ≡ replicate l._number nothing_submitted
