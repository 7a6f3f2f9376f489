use Rattle.std.proofs.Common.{arith}
use Rattle.std.proofs.lemmas.Result.{err_from_is_err_and}
use Rattle.cluster_drain.proofs.Pairs.{ends_of, pair_drains}
use Rattle.cluster_drain.proofs.Running.{can_still, pair_runs, refused_runs, runs_then}
use Rattle.cluster_drain.proofs.draining.take_link.Goals as goal

pub settle_link-requires-clause-ends : goal.settle_link-requires-clause-ends
settle_link-requires-clause-ends g c =
    ends_of c.args.link.from c.args.link.to c.args.actors.now c.requires.can.can.linked c.requires.link.from c.requires.link.to

pub returns-then-is_err : goal.returns-then-is_err
returns-then-is_err g c =
    refused_runs g.N.NodeModel g.D.Disk c.args.left.now c.args.link.from c.args.link.to c.args.actors.now c.settle_link.new.actors c.settle_link.ensures
    c.requires.link.from c.requires.link.to c.requires.can

pub waiting-count-requires : goal.waiting-count-requires
waiting-count-requires g c =
    let zs = c.settle_link.new.actors in
    let drains = pair_drains g.N.NodeModel g.D.Disk c.args.link.from c.args.link.to c.args.actors.now zs c.settle_link.ensures c.requires.link.from
    c.requires.link.to in
    let d = c.index-actors-to.result in
    (ends_of c.args.link.from c.args.link.to zs (drains.can c.requires.can.can).linked (omega (arith, c.requires.link.from, drains.as_many))
    (omega (arith, c.requires.link.to, drains.as_many)) d d).receives

pub loop-frame-init : goal.loop-frame-init
loop-frame-init g c =
    pair_runs g.N.NodeModel g.D.Disk c.args.left.now c.args.link.from c.args.link.to c.args.actors.now c.settle_link.new.actors c.settle_link.ensures
    c.requires.link.from c.requires.link.to c.requires.can

pub take_frame-requires : goal.take_frame-requires
take_frame-requires g c =
    let as_many = c.loop-frame.invariant.drains.as_many in
    record {
      can = can_still g.N.NodeModel g.D.Disk c.args.left.now c.loop-frame.left c.args.actors.now c.loop-frame.actors c.requires.can.can c.loop-frame.invariant;
      link = record { from = omega (arith, c.requires.link.from, as_many); to = omega (arith, c.requires.link.to, as_many) };
    }

pub loop-frame-preserved : goal.loop-frame-preserved
loop-frame-preserved g c =
    runs_then g.N.NodeModel g.D.Disk _ c.args.left.now c.loop-frame.left c.take_frame.new.left c.args.actors.now c.loop-frame.actors c.take_frame.new.actors
    c.loop-frame.invariant c.in_ok-take_frame.ensures

pub returns-in_err-take_frame : goal.returns-in_err-take_frame
returns-in_err-take_frame g c =
    let p = err_from_is_err_and c.from_residual.result c.from_residual.ensures.1 in
    rw (p.1, p.2) (runs_then g.N.NodeModel g.D.Disk _ c.args.left.now c.loop-frame.left c.take_frame.new.left c.args.actors.now c.loop-frame.actors
    c.take_frame.new.actors c.loop-frame.invariant c.in_err-take_frame.ensures)
