use Rattle.std.proofs.Common.{◌≡◌, length, Ok}
use Rattle.cluster_drain.specs.inside.Runs.{Runs, each}
use Rattle.cluster_drain.proofs.draining.take_from_all.Given as goal

abbrev pub invariant-loop-from : goal.invariant-loop-from
invariant-loop-from g l =
    Runs {T = Unit {0}} g.N.NodeModel g.D.Disk (each 0) (Ok tt) l.fn.left l.left l.fn.actors l.actors × (l.from-end ≡ length l.fn.actors)
