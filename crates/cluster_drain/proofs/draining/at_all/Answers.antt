use Rattle.std.proofs.Common.{◌+◌, arith, refl}
use Rattle.std.proofs.lemmas.Result.{err_from_is_err_and}
use Rattle.cluster_drain.specs.inside.Runs.{at_only, below, each, ticks_told}
use Rattle.cluster_drain.proofs.Running.{can_still, fails_then, runs_as, runs_itself, runs_more}
use Rattle.cluster_drain.proofs.Ticking.{below_all, below_next}
use Rattle.cluster_drain.proofs.draining.at_all.Goals as goal

pub loop-place-init : goal.loop-place-init
loop-place-init g c = (
  runs_as g.N.NodeModel g.D.Disk (each 0) (below (ticks_told c.args.part) 0) _ _ _ _ _ (λ place low. refl)
      (runs_itself g.N.NodeModel g.D.Disk c.args.left.now c.args.actors.now c.requires),
  refl,
)

pub at_one-requires : goal.at_one-requires
at_one-requires g c =
    let as_many = c.loop-place.invariant.0.drains.as_many in
    record {
      can = can_still g.N.NodeModel g.D.Disk c.args.left.now c.loop-place.left c.args.actors.now c.loop-place.actors c.requires.can c.loop-place.invariant.0;
      place = omega (arith, c.loop-place-test.true, c.loop-place.invariant.1, as_many);
    }

pub loop-place-preserved : goal.loop-place-preserved
loop-place-preserved g c =
    let ticks = ticks_told c.args.part in
    let done = c.loop-place.place in (
      runs_more g.N.NodeModel g.D.Disk (below ticks done) (at_only ticks done) (below ticks (done + 1)) _ c.args.left.now c.loop-place.left c.at_one.new.left
          c.args.actors.now c.loop-place.actors c.at_one.new.actors (λ place low. below_next ticks done place) c.loop-place.invariant.0
          c.in_ok-at_one.ensures,
      c.loop-place.invariant.1,
    )

pub returns-in_err-at_one : goal.returns-in_err-at_one
returns-in_err-at_one g c =
    let p = err_from_is_err_and c.from_residual.result c.from_residual.ensures.1 in
    rw (p.1, p.2) (fails_then g.N.NodeModel g.D.Disk _ c.args.left.now c.loop-place.left c.at_one.new.left c.args.actors.now c.loop-place.actors
    c.at_one.new.actors c.loop-place.invariant.0 c.in_err-at_one.ensures)

pub returns : goal.returns
returns g c =
    let ticks = ticks_told c.args.part in
    runs_as g.N.NodeModel g.D.Disk (below ticks c.loop-place.place) (each ticks) _ _ _ _ _
    (λ place low. below_all ticks c.loop-place.place place (omega (arith, low, c.loop-place-test.false, c.loop-place.invariant.1))) c.loop-place.invariant.0
