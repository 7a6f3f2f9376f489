use Rattle.std.proofs.Common.{arith, refl}
use Rattle.std.proofs.lemmas.Result.{err_from_is_err_and}
use Rattle.cluster_drain.proofs.Running.{can_still, runs_itself, runs_then}
use Rattle.cluster_drain.proofs.draining.take_from_all.Goals as goal

pub loop-from-init : goal.loop-from-init
loop-from-init g c = (runs_itself g.N.NodeModel g.D.Disk c.args.left.now c.args.actors.now c.requires.can, refl)

pub take_link-requires : goal.take_link-requires
take_link-requires g c =
    let as_many = c.loop-from.invariant.0.drains.as_many in
    record {
      can = can_still g.N.NodeModel g.D.Disk c.args.left.now c.loop-from.left c.args.actors.now c.loop-from.actors c.requires.can.can c.loop-from.invariant.0;
      link = record { from = omega (arith, c.loop-from-test.true, c.loop-from.invariant.1, as_many); to = omega (arith, c.requires.to, as_many) };
    }

pub loop-from-preserved : goal.loop-from-preserved
loop-from-preserved g c = (
  runs_then g.N.NodeModel g.D.Disk _ c.args.left.now c.loop-from.left c.take_link.new.left c.args.actors.now c.loop-from.actors c.take_link.new.actors
      c.loop-from.invariant.0 c.in_ok-take_link.ensures,
  c.loop-from.invariant.1,
)

pub returns-in_err-take_link : goal.returns-in_err-take_link
returns-in_err-take_link g c =
    let p = err_from_is_err_and c.from_residual.result c.from_residual.ensures.1 in
    rw (p.1, p.2) (runs_then g.N.NodeModel g.D.Disk _ c.args.left.now c.loop-from.left c.take_link.new.left c.args.actors.now c.loop-from.actors
    c.take_link.new.actors
    c.loop-from.invariant.0 c.in_err-take_link.ensures)
