use Rattle.std.proofs.Common.{length}
use Rattle.net_model.proofs.journal.+nodes_are_distinct.Given as goal

abbrev pub decreases-nodes_are_distinct : goal.decreases-nodes_are_distinct
decreases-nodes_are_distinct l = length l.journals.now
