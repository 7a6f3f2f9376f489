use Rattle.std.proofs.Common.{length}
use Rattle.cluster_crew.proofs.marks.+count_marks.Given as goal

abbrev pub decreases-count_marks : goal.decreases-count_marks
decreases-count_marks l = length l.marks.now
