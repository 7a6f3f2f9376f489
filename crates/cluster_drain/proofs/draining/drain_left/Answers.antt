use Rattle.std.proofs.Common.{◌<◌, arith}
use Rattle.cluster_drain.specs.declared.drained.Early.TheVariants as early
use Rattle.cluster_drain.specs.inside.Runs.{each}
use Rattle.cluster_drain.proofs.Running.{none_runs}
use Rattle.cluster_drain.proofs.draining.drain_left.Goals as goal

pub returns-then-not-are_going : goal.returns-then-not-are_going
returns-then-not-are_going g c =
    let some : 0 < c.args.left.now = omega (arith, c.if-left-eq0.false) in
    none_runs g.N.NodeModel g.D.Disk (each c.args.settle) early.Stopped c.args.left.now c.args.actors.now
    (some, c.are_going.ensures.stopped c.if-not-are_going.true)
