use Rattle.std.proofs.Common.{◌+◌, ◌≤◌, vec_len, vec_capacity}
use Rattle.std.specs.List.{AllZip}
use Rattle.std.specs.Vec.Iter.{into_iter_len}
use Rattle.cluster_crew.specs.Ending.{IsActorOf}
use Rattle.cluster_crew.proofs.apart.actors_of.Given as goal

abbrev pub invariant-loop-member : goal.invariant-loop-member
invariant-loop-member g l = record {
  each : AllZip IsActorOf l.yielded l.actors.items;
  room : vec_len l.actors + into_iter_len l.member-iterator ≤ vec_capacity l.actors;
}
