use Rattle.std.proofs.Common.{rules}
use Rattle.std.proofs.lemmas.List.Elements.{All-rest}
use Rattle.scoped_turns.specs.Started.{IsOwed}
use Rattle.scoped_turns.proofs.Pairs.{pushed}
use Rattle.scoped_turns.proofs.room.Room.start_all.Goals as goal

pub loop-actor-preserved : goal.loop-actor-preserved
loop-actor-preserved g c = record {
  each = pushed (IsOwed g.A.TakesTurns.took c.args.env.now c.args.turns) _ _ _ _ _ c.push_reserved.ensures.items c.loop-actor.invariant.each c.start.ensures;
  ready = All-rest (g.A.TakesTurns.ready c.args.env.now) _ _ _ c.in-Some.ensures.steps.0 c.loop-actor.invariant.ready;
  count = search rules;
  room = search rules;
}
