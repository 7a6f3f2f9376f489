use Rattle.std.proofs.Common.{◌≡◌, length}
use Rattle.cluster_drain.proofs.Running.{AreGoingBelow}
use Rattle.cluster_drain.proofs.draining.are_going.Given as goal

abbrev pub invariant-loop-place : goal.invariant-loop-place
invariant-loop-place g l = AreGoingBelow l.place l.actors × (l.place-end ≡ length l.actors)
