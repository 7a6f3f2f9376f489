use Rattle.std.proofs.Common.{◌≡◌, ◌+◌, arith, refl}
use Rattle.std.proofs.lemmas.Result.{err_from_is_err_and}
use Rattle.cluster_drain.specs.inside.Runs.{each}
use Rattle.cluster_drain.proofs.Running.{can_still, fails_as, fails_then, runs_as, runs_more}
use Rattle.cluster_drain.proofs.draining.drain_all.Goals as goal

pub loop-round-init : goal.loop-round-init
loop-round-init g c = c.in_ok-take_frames.ensures

pub take_round-requires : goal.take_round-requires
take_round-requires g c = can_still g.N.NodeModel g.D.Disk c.args.left.now c.loop-round.left c.args.actors.now c.loop-round.actors c.requires.can
    c.loop-round.invariant

pub loop-round-preserved : goal.loop-round-preserved
loop-round-preserved g c =
    let rounds = c.loop-round._round in
    runs_more g.N.NodeModel g.D.Disk (each rounds) (each 1) (each (rounds + 1)) _ c.args.left.now c.loop-round.left c.take_round.new.left c.args.actors.now
    c.loop-round.actors c.take_round.new.actors (λ place low. refl) c.loop-round.invariant c.in_ok-take_round.ensures

pub returns-in_err-take_frames : goal.returns-in_err-take_frames
returns-in_err-take_frames g c =
    let p = err_from_is_err_and c.from_residual.result c.from_residual.ensures.1 in
    rw (p.1, p.2) (fails_as g.N.NodeModel g.D.Disk _ _ _ _ _ c.in_err-take_frames.ensures)

pub returns-in_err-take_round : goal.returns-in_err-take_round
returns-in_err-take_round g c =
    let p = err_from_is_err_and c.from_residual-in_err-take_round.result c.from_residual-in_err-take_round.ensures.1 in
    rw (p.1, p.2) (fails_then g.N.NodeModel g.D.Disk _ c.args.left.now c.loop-round.left c.take_round.new.left c.args.actors.now c.loop-round.actors
    c.take_round.new.actors c.loop-round.invariant c.in_err-take_round.ensures)

pub returns : goal.returns
returns g c =
    let all : c.loop-round._round ≡ c.args.settle = omega (arith, c.loop-round-test.false, c.loop-round.auto._round-end) in
    runs_as g.N.NodeModel g.D.Disk (each c.loop-round._round) (each c.args.settle) _ _ _ _ _ (λ place low. all) c.loop-round.invariant
