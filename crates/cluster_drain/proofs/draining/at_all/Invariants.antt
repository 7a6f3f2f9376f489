use Rattle.std.proofs.Common.{◌≡◌, length, Ok}
use Rattle.cluster_drain.specs.inside.Runs.{Runs, below, ticks_told}
use Rattle.cluster_drain.proofs.draining.at_all.Given as goal

abbrev pub invariant-loop-place : goal.invariant-loop-place
invariant-loop-place g l =
    Runs {T = Unit {0}} g.N.NodeModel g.D.Disk (below (ticks_told l.part) l.place) (Ok tt) l.fn.left l.left l.fn.actors l.actors
    × (l.place-end ≡ length l.fn.actors)
