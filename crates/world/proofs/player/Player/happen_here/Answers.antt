use Rattle.world.proofs.Happening.{begins, ready_there, has_happened, emptied}
use Rattle.world.proofs.player.Player.happen_here.Goals as goal

pub step_at-requires-clause-ready : goal.step_at-requires-clause-ready
step_at-requires-clause-ready c =
    let b = begins c.args.self c.deref_mut-inside.result.now _ c.args.node c.args.event c.deref_mut-inside.ensures.value c.self.invariant c.self.view_is c.requires in
    (ready_there b c.rank_of-place.result c.rank_of-place.ensures, b.known.between)

pub invariant_of-result : goal.invariant_of-result
invariant_of-result c =
    let b = begins c.args.self c.deref_mut-inside.result.now _ c.args.node c.args.event c.deref_mut-inside.ensures.value c.self.invariant c.self.view_is c.requires in
    let made = has_happened b c.rank_of-place.result c.rank_of-place.ensures c.step_at.new.out c.len.result c.push_step.new.self c.step_at.new.made.items c.push.new.self
    c.in_ok-step_at.ensures.gives c.in_ok-step_at.ensures.leaves c.in_ok-step_at.ensures.valid c.in_ok-push_step.ensures.ok c.len.ensures c.in_ok-push.ensures in
    record {
      order = b.known.order;
      turn = b.known.turn;
      played = made.0;
      between = emptied c.step_at.new.out c.push_step.new.step c.clear.new.self c.in_ok-push_step.ensures.moved c.clear.ensures;
    }

pub returns : goal.returns
returns c =
    let b = begins c.args.self c.deref_mut-inside.result.now _ c.args.node c.args.event c.deref_mut-inside.ensures.value c.self.invariant c.self.view_is c.requires in
    let made = has_happened b c.rank_of-place.result c.rank_of-place.ensures c.step_at.new.out c.len.result c.push_step.new.self c.step_at.new.made.items c.push.new.self
    c.in_ok-step_at.ensures.gives c.in_ok-step_at.ensures.leaves c.in_ok-step_at.ensures.valid c.in_ok-push_step.ensures.ok c.len.ensures c.in_ok-push.ensures in
    made.1
