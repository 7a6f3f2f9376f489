use Rattle.std.proofs.Common.{length}
use Rattle.cluster_crew.proofs.tests.plans.+entries.Given as goal

abbrev pub decreases-entries : goal.decreases-entries
decreases-entries l = length l.lines.now
