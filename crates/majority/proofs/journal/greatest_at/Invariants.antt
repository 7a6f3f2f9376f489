use Rattle.std.proofs.Common.{◌≡◌, drop, option_copied}
use Rattle.majority.specs.Proposers.{greater_report}
use Rattle.majority.specs.Journals.{greatest_at}
use Rattle.majority.proofs.journal.greatest_at.Given as goal

abbrev pub invariant-loop-journal : goal.invariant-loop-journal
invariant-loop-journal g l =
    greater_report (option_copied l.best) (greatest_at l.slot (drop l.journal-index l.journals)) ≡ greatest_at l.slot l.journals
