use Rattle.std.proofs.Common.{arith}
use Rattle.std.proofs.lemmas.Result.{err_from_is_err_and}
use Rattle.cluster_drain.proofs.Running.{can_still, runs_itself, runs_then}
use Rattle.cluster_drain.proofs.draining.take_frames.Goals as goal

pub loop-init : goal.loop-init
loop-init g c = runs_itself g.N.NodeModel g.D.Disk c.args.left.now c.args.actors.now c.requires

pub at_all-requires : goal.at_all-requires
at_all-requires g c = can_still g.N.NodeModel g.D.Disk c.args.left.now c.loop.left c.args.actors.now c.loop.actors c.requires.can c.loop.invariant

pub loop-preserved : goal.loop-preserved
loop-preserved g c =
    runs_then g.N.NodeModel g.D.Disk _ c.args.left.now c.loop.left c.at_all.new.left c.args.actors.now c.loop.actors c.at_all.new.actors c.loop.invariant
    c.in_ok-at_all.ensures

pub loop-smaller : goal.loop-smaller
loop-smaller g c = let fewer = c.in_ok-at_all.ensures.fewer in omega (arith, fewer, c.if-left-before.false)

pub returns-in_err-at_all : goal.returns-in_err-at_all
returns-in_err-at_all g c =
    let p = err_from_is_err_and c.from_residual.result c.from_residual.ensures.1 in
    rw (p.1, p.2) (runs_then g.N.NodeModel g.D.Disk _ c.args.left.now c.loop.left c.at_all.new.left c.args.actors.now c.loop.actors c.at_all.new.actors
    c.loop.invariant c.in_err-at_all.ensures)

pub returns-then-left-before : goal.returns-then-left-before
returns-then-left-before g c =
    runs_then g.N.NodeModel g.D.Disk _ c.args.left.now c.loop.left c.at_all.new.left c.args.actors.now c.loop.actors c.at_all.new.actors c.loop.invariant
    c.in_ok-at_all.ensures
