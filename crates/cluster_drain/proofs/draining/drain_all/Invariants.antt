use Rattle.std.proofs.Common.{Ok}
use Rattle.cluster_drain.specs.inside.Runs.{Runs, each}
use Rattle.cluster_drain.proofs.draining.drain_all.Given as goal

abbrev pub invariant-loop-round : goal.invariant-loop-round
invariant-loop-round g l = Runs {T = Unit {0}} g.N.NodeModel g.D.Disk (each l._round) (Ok tt) l.fn.left l.left l.fn.actors l.actors
