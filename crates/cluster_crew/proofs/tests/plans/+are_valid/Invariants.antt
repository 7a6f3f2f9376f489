use Rattle.std.proofs.Common.{length}
use Rattle.cluster_crew.proofs.tests.plans.+are_valid.Given as goal

abbrev pub decreases-are_valid : goal.decreases-are_valid
decreases-are_valid l = length l.lines.now
