use Rattle.std.proofs.Common.{rules, [], append-nil, refl, sym}
use Rattle.node_actor.specs.Cores.{steps_of}
use Rattle.node_actor.proofs.Going.{none_pulled, pulled_moved, frame_steps}
use Rattle.node_actor.proofs.actor.NodeActor.take_frame.Goals as goal

pub returns-in-None-clause-moved : goal.returns-in-None-clause-moved
returns-in-None-clause-moved g c =
    none_pulled g.N.NodeModel g.D.Disk c.args.self.now _ _ (search rules) c.requires.going c.deref_mut.ensures.value c.in-None.ensures.none

pub returns-in-None-clause-steps : goal.returns-in-None-clause-steps
returns-in-None-clause-steps g c = λ calm. ([], sym (append-nil (steps_of c.args.self.now.core)), refl)

pub returns-in-Some-clause-moved : goal.returns-in-Some-clause-moved
returns-in-Some-clause-moved g c =
    pulled_moved g.N.NodeModel g.D.Disk c.receive_from.result c.args.self.now c.receive_from.new.self _ _ _ c.in-Some.from c.in-Some.frame (search rules)
    c.requires.going c.deref_mut.ensures.value c.in-Some.ensures.some c.receive_from.ensures

pub returns-in-Some-clause-steps : goal.returns-in-Some-clause-steps
returns-in-Some-clause-steps g c =
    frame_steps g.N.NodeModel g.D.Disk c.receive_from.result c.in-Some.from c.in-Some.frame c.args.self.now _ c.receive_from.new.self refl
    c.receive_from.ensures
