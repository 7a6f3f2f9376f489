use Rattle.std.proofs.Common.{◌≡◌, Some, sym, ap, ◌∙◌}
use Rattle.std.specs.List.{slice_get}
use Rattle.std.proofs.lemmas.Option.{same_Some}
use Rattle.net_model.specs.Pasts.{sent}
use Rattle.runs.specs.Names.{Message}
use Rattle.runs.specs.Names.events
use Rattle.world.specs.inside.PlayerSteps.{PlayerState, happens}
use Rattle.world.proofs.Happening.{begins_message, ready_there, has_happened, emptied}
use Rattle.world.proofs.player.Player.take_message.Goals as goal

pub rank_of-place-requires-clause-node : goal.rank_of-place-requires-clause-node
rank_of-place-requires-clause-node c =
    let b = begins_message c.args.self c.deref_mut-inside.result.now _ c.messages.result.now c.args.number c.index-messages-number.result
    c.deref_mut-inside.ensures.value c.self.invariant c.self.view_is c.messages.ensures c.requires c.index-messages-number.is in
    b.0.can.within

pub deliver_at-requires-clause-ready : goal.deliver_at-requires-clause-ready
deliver_at-requires-clause-ready c =
    let b = begins_message c.args.self c.deref_mut-inside.result.now _ c.messages.result.now c.args.number c.index-messages-number.result
    c.deref_mut-inside.ensures.value c.self.invariant c.self.view_is c.messages.ensures c.requires c.index-messages-number.is in
    (ready_there b.0 c.rank_of-place.result c.rank_of-place.ensures, b.0.known.between)

pub invariant_of-result : goal.invariant_of-result
invariant_of-result c =
    let b = begins_message c.args.self c.deref_mut-inside.result.now _ c.messages.result.now c.args.number c.index-messages-number.result
    c.deref_mut-inside.ensures.value c.self.invariant c.self.view_is c.messages.ensures c.requires c.index-messages-number.is in
    let made = has_happened b.0 c.rank_of-place.result c.rank_of-place.ensures c.deliver_at.new.out c.len.result c.push_delivery.new.self c.deliver_at.new.made.items c.push.new.self
    c.in_ok-deliver_at.ensures.gives c.in_ok-deliver_at.ensures.leaves c.in_ok-deliver_at.ensures.valid
    (c.in_ok-push_delivery.ensures.ok c.index-messages-number.result b.1) c.len.ensures c.in_ok-push.ensures in
    record {
      order = b.0.known.order;
      turn = b.0.known.turn;
      played = made.0;
      between = emptied c.deliver_at.new.out c.push_delivery.new.step c.clear.new.self c.in_ok-push_delivery.ensures.moved c.clear.ensures;
    }

pub returns : goal.returns
returns c message sent_one =
    let m = c.index-messages-number.result in
    let b = begins_message c.args.self c.deref_mut-inside.result.now _ c.messages.result.now c.args.number m
    c.deref_mut-inside.ensures.value c.self.invariant c.self.view_is c.messages.ensures c.requires c.index-messages-number.is in
    let made = has_happened b.0 c.rank_of-place.result c.rank_of-place.ensures c.deliver_at.new.out c.len.result c.push_delivery.new.self c.deliver_at.new.made.items c.push.new.self
    c.in_ok-deliver_at.ensures.gives c.in_ok-deliver_at.ensures.leaves c.in_ok-deliver_at.ensures.valid
    (c.in_ok-push_delivery.ensures.ok m b.1) c.len.ensures c.in_ok-push.ensures in
    let there : slice_get (sent c.args.self.past) c.args.number ≡ Some m = ap (λ (s : PlayerState). slice_get (sent s.past) c.args.number) (sym b.0.view) ∙ b.1 in
    made.1 ∙ ap (λ (x : Message). happens x.to (events.Deliver x) c.args.self) (same_Some m message (sym there ∙ sent_one))
