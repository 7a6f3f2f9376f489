use Rattle.std.proofs.Common.{get_or, subst}
use Rattle.std.proofs.lemmas.List.{get_or-set_same}
use Rattle.node_actor.specs.declared.taken.Taken.TheVariants as takes
use Rattle.node_actor.specs.Actors.{CanGoOn}
use Rattle.node_seats.proofs.Zips.{all_get}
use Rattle.cluster_drain.specs.inside.Runs.{GoesOn, at_only, each}
use Rattle.cluster_drain.proofs.Pairs.{ends_of}
use Rattle.cluster_drain.proofs.Running.{TookMore, frame_more, none_more, rest_runs, runs_as, step_runs}
use Rattle.cluster_drain.proofs.Ticking.{frame_ticks, only_none}
use Rattle.cluster_drain.proofs.Writing.{moved_keeps}
use Rattle.cluster_drain.proofs.draining.take_frame.Goals as goal

pub take_frame_from-requires-clause-going : goal.take_frame_from-requires-clause-going
take_frame_from-requires-clause-going g c =
    all_get (CanGoOn g.N.NodeModel) c.args.actors.now c.args.link.to c.index-actors-link.result c.requires.can.can.each c.requires.link.to

pub take_frame_from-requires-clause-within : goal.take_frame_from-requires-clause-within
take_frame_from-requires-clause-within g c =
    let d = c.index-actors-link.result in
    (ends_of c.args.link.from c.args.link.to c.args.actors.now c.requires.can.can.linked c.requires.link.from c.requires.link.to d d).receives

pub returns-in-Input : goal.returns-in-Input
returns-in-Input g c =
    let xs = c.args.actors.now in
    let d = c.index-actors-link.result in
    let x = get_or xs c.args.link.to d in
    let y = c.take_frame_from.new.self in
    let moved = c.take_frame_from.ensures in
    runs_as g.N.NodeModel g.D.Disk (at_only 0 c.args.link.to) (each 0) c.count_input.result c.args.left.now c.count_input.new.left xs _
    (λ place low. only_none c.args.link.to place)
    (step_runs g.N.NodeModel g.D.Disk 0 c.count_input.result c.args.left.now c.count_input.new.left xs c.args.link.to d y c.requires.link.to c.requires.can
    (moved_keeps g.N.NodeModel g.D.Disk x y moved.moved) (frame_more takes.Input x y c.in-Input.ensures.steps)
    (frame_ticks takes.Input x y c.in-Input.ensures.steps) (moved.going c.in-Input.is) c.count_input.ensures)

pub returns-in-NoInput : goal.returns-in-NoInput
returns-in-NoInput g c =
    let xs = c.args.actors.now in
    let d = c.index-actors-link.result in
    let x = get_or xs c.args.link.to d in
    let y = c.take_frame_from.new.self in
    let moved = c.take_frame_from.ensures in
    rest_runs g.N.NodeModel g.D.Disk c.go_on.result c.args.left.now xs c.args.link.to d y c.requires.link.to c.requires.can
    (moved_keeps g.N.NodeModel g.D.Disk x y moved.moved)
    (subst (λ n. TookMore n x y) (none_more c.take_frame_from.result c.in-NoInput.is) (frame_more c.take_frame_from.result x y moved.steps))
    (frame_ticks c.take_frame_from.result x y moved.steps)
    (subst (GoesOn c.go_on.result) (get_or-set_same xs c.args.link.to y c.index-actors-link-in-NoInput.result c.requires.link.to) c.go_on.ensures)
