use Rattle.std.proofs.Common.{Ok}
use Rattle.cluster_drain.specs.inside.Runs.{Runs, each}
use Rattle.cluster_drain.proofs.draining.take_frames.Given as goal

abbrev pub invariant-loop : goal.invariant-loop
invariant-loop g l = Runs {T = Unit {0}} g.N.NodeModel g.D.Disk (each 0) (Ok tt) l.fn.left l.left l.fn.actors l.actors

-- each pass but the last takes an input
abbrev pub decreases-loop : goal.decreases-loop
decreases-loop g l = l.left
