use Rattle.std.proofs.Common.{◌≡◌, [], ap, sym, ◌∙◌, rules}
use Rattle.std.proofs.IntoIterSteps.{All-taken}
use Rattle.std.proofs.lemmas.List.{nil_from_length}
use Rattle.plan_crew.proofs.Joining.{joined_none, joined_one, joined_end, joined_all}
use Rattle.plan_crew.proofs.members.members_of.Goals as goal

pub loop-actor-init : goal.loop-actor-init
loop-actor-init g c = record { joined = joined_none c.args.sides.items c.args.members.items c.requires.none; room = search rules }

pub loop-actor-preserved-in-Some-pop_front : goal.loop-actor-preserved-in-Some-pop_front
loop-actor-preserved-in-Some-pop_front g c = record {
  joined = joined_one c.loop-actor.yielded c.args.sides.items c.loop-actor.members.items c.push_reserved.new.self.items c.loop-actor.sides.items
      c.pop_front.new.self.items c.in-Some.actor c.in-Some-pop_front.side c.in-Some-pop_front.ensures.items c.push_reserved.ensures.items
      c.loop-actor.invariant.joined;
  room = search rules;
}

pub loop-actor-preserved : goal.loop-actor-preserved
loop-actor-preserved g c = record {
  joined = joined_end c.loop-actor.yielded c.args.sides.items c.loop-actor.members.items c.loop-actor.sides.items c.pop_front.new.self.items
      c.in-Some.actor (nil_from_length c.loop-actor.sides.items (search rules)) (nil_from_length c.pop_front.new.self.items (search rules))
      c.loop-actor.invariant.joined;
  room = search rules;
}

pub returns : goal.returns
returns g c =
    joined_all c.loop-actor.yielded c.args.actors.items c.args.sides.items c.loop-actor.members.items c.loop-actor.sides.items
    (All-taken c.into_iter-actor-iterator.result c.loop-actor.yielded
    (c.next.new.self, (c.loop-actor.actor-iterator, c.loop-actor.yielded_by, c.in-None.ensures.steps))
    ∙ c.into_iter-actor-iterator.ensures.into_iter_gives.0)
    c.loop-actor.invariant.joined
