use Rattle.std.proofs.Common.{◌≡◌, replicate}
use Rattle.report_text.specs.inside.Consuming.{nothing_consumed}
use Rattle.report_text.proofs.gathered.consumers.Given as goal

abbrev pub invariant-loop-number : goal.invariant-loop-number
invariant-loop-number l = l.all.items ≡ replicate l._number nothing_consumed
