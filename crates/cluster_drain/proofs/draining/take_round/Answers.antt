use Rattle.std.proofs.Common.{refl}
use Rattle.cluster_drain.specs.inside.Runs.{each}
use Rattle.cluster_drain.proofs.Running.{can_still, runs_more}
use Rattle.cluster_drain.proofs.draining.take_round.Goals as goal

pub take_frames-requires : goal.take_frames-requires
take_frames-requires g c =
    can_still g.N.NodeModel g.D.Disk c.args.left.now c.at_all.new.left c.args.actors.now c.at_all.new.actors c.requires.can c.in_ok-at_all.ensures

pub returns : goal.returns
returns g c =
    runs_more g.N.NodeModel g.D.Disk (each 1) (each 0) (each 1) c.take_frames.result c.args.left.now c.at_all.new.left c.take_frames.new.left c.args.actors.now
    c.at_all.new.actors c.take_frames.new.actors (λ place low. refl) c.in_ok-at_all.ensures c.take_frames.ensures
