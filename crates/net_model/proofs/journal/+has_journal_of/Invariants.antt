use Rattle.std.proofs.Common.{length}
use Rattle.net_model.proofs.journal.+has_journal_of.Given as goal

abbrev pub decreases-has_journal_of : goal.decreases-has_journal_of
decreases-has_journal_of l = length l.journals.now
