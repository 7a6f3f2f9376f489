use Rattle.std.proofs.Common.{subst, sym}
use Rattle.cluster_drain.specs.inside.Runs.{Runs, at_only, each, ticks_told}
use Rattle.cluster_drain.proofs.Running.{runs_as}
use Rattle.cluster_drain.proofs.Ticking.{only_none}
use Rattle.cluster_drain.proofs.draining.at_one.Goals as goal

pub returns-in-Tick : goal.returns-in-Tick
returns-in-Tick g c =
    subst (λ part. Runs g.N.NodeModel g.D.Disk (at_only (ticks_told part) c.args.place) c.tick_one.result c.args.left.now c.tick_one.new.left
    c.args.actors.now c.tick_one.new.actors) (sym c.in-Tick.is) c.tick_one.ensures

pub returns-in-Frames : goal.returns-in-Frames
returns-in-Frames g c =
    subst (λ part. Runs g.N.NodeModel g.D.Disk (at_only (ticks_told part) c.args.place) c.take_from_all.result c.args.left.now c.take_from_all.new.left
    c.args.actors.now c.take_from_all.new.actors) (sym c.in-Frames.is) (runs_as g.N.NodeModel g.D.Disk (each 0) (at_only 0 c.args.place) _ _ _ _ _
    (λ place low. sym (only_none c.args.place place)) c.take_from_all.ensures)
