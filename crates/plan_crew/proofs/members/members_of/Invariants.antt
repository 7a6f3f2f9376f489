use Rattle.std.proofs.Common.{◌≡◌, ◌+◌, ◌≤◌, ◌++◌, vec_len, vec_capacity}
use Rattle.std.specs.Vec.Iter.{into_iter_len}
use Rattle.plan_crew.specs.Begins.{members_of}
use Rattle.plan_crew.proofs.Joining.{IsJoined}
use Rattle.plan_crew.proofs.members.members_of.Given as goal

abbrev pub invariant-loop-actor : goal.invariant-loop-actor
invariant-loop-actor g l = record {
  joined : IsJoined l.yielded l.fn.sides.items l.members.items l.sides.items;
  room : vec_len l.members + into_iter_len l.actor-iterator ≤ vec_capacity l.members;
}
