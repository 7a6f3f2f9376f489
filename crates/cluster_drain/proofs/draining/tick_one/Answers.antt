use Rattle.std.proofs.Common.{get_or}
use Rattle.node_actor.specs.Actors.{CanGoOn}
use Rattle.node_seats.proofs.Zips.{all_get}
use Rattle.cluster_drain.specs.inside.Runs.{at_only}
use Rattle.cluster_drain.proofs.Running.{step_runs, stopped_runs, tick_more}
use Rattle.cluster_drain.proofs.Ticking.{tick_ticks}
use Rattle.cluster_drain.proofs.Writing.{moved_keeps}
use Rattle.cluster_drain.proofs.draining.tick_one.Goals as goal

pub tick-requires : goal.tick-requires
tick-requires g c = record {
  going = all_get (CanGoOn g.N.NodeModel) c.args.actors.now c.args.place c.index-actors-place.result c.requires.can.can.each c.requires.place;
}

pub returns-then-not-tick : goal.returns-then-not-tick
returns-then-not-tick g c =
    stopped_runs g.N.NodeModel g.D.Disk (at_only 1 c.args.place) c.args.left.now c.args.actors.now c.args.place c.index-actors-place.result c.tick.new.self
    c.requires.place c.requires.can
    (moved_keeps g.N.NodeModel g.D.Disk (get_or c.args.actors.now c.args.place c.index-actors-place.result) c.tick.new.self c.tick.ensures.moved)
    (c.tick.ensures.stopped c.if-not-tick.true)

pub returns : goal.returns
returns g c =
    step_runs g.N.NodeModel g.D.Disk 1 c.count_input.result c.args.left.now c.count_input.new.left c.args.actors.now c.args.place c.index-actors-place.result
    c.tick.new.self c.requires.place c.requires.can (moved_keeps g.N.NodeModel g.D.Disk
    (get_or c.args.actors.now c.args.place c.index-actors-place.result) c.tick.new.self c.tick.ensures.moved)
    (tick_more (get_or c.args.actors.now c.args.place c.index-actors-place.result) c.tick.new.self c.tick.ensures.steps)
    (tick_ticks (get_or c.args.actors.now c.args.place c.index-actors-place.result) c.tick.new.self c.tick.ensures.steps)
    (c.tick.ensures.taken c.if-not-tick.false) c.count_input.ensures
