use Rattle.std.proofs.Common.{◌≡◌}
use Rattle.cluster_seats.specs.Blanks.{new_faults}
use Rattle.cluster_seats.proofs.blank.faults_from.Given as goal

abbrev pub invariant-loop-to : goal.invariant-loop-to
invariant-loop-to l = l.faults.items ≡ new_faults l.seed l.place l.to
