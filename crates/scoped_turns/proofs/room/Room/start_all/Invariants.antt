use Rattle.std.proofs.Common.{◌≡◌, ◌+◌, ◌≤◌, vec_len, vec_capacity}
use Rattle.std.specs.List.{All, AllZip}
use Rattle.std.specs.Vec.Iter.{into_iter_items, into_iter_len}
use Rattle.scoped_turns.specs.Started.{IsOwed}
use Rattle.scoped_turns.proofs.room.Room.start_all.Given as goal

abbrev pub invariant-loop-actor : goal.invariant-loop-actor
invariant-loop-actor g l = record {
  each : AllZip (IsOwed g.A.TakesTurns.took l.fn.env l.fn.turns) l.yielded l.started.items;
  ready : All (g.A.TakesTurns.ready l.fn.env) (into_iter_items l.actor-iterator);
  count : vec_len l.started + into_iter_len l.actor-iterator ≡ vec_len l.fn.actors;
  room : vec_len l.started + into_iter_len l.actor-iterator ≤ vec_capacity l.started;
}
