use Rattle.std.proofs.Common.{Ok}
use Rattle.cluster_drain.specs.inside.Runs.{Runs, each}
use Rattle.cluster_drain.proofs.draining.take_link.Given as goal

abbrev pub invariant-loop-frame : goal.invariant-loop-frame
invariant-loop-frame g l = Runs {T = Unit {0}} g.N.NodeModel g.D.Disk (each 0) (Ok tt) l.fn.left l.left l.fn.actors l.actors
