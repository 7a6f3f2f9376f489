use Rattle.std.proofs.Common.{◌+◌, ◌≤◌, vec_len, vec_capacity}
use Rattle.std.specs.List.{AllZip}
use Rattle.std.specs.Vec.Iter.{into_iter_len}
use Rattle.scoped_turns.specs.Started.{Keeps}
use Rattle.scoped_turns.proofs.room.finish_list.Given as goal

abbrev pub invariant-loop-one : goal.invariant-loop-one
invariant-loop-one g l = record {
  each : AllZip (Keeps g.P.Promise.kept_by) l.yielded l.back.items;
  room : vec_len l.back + into_iter_len l.one-iterator ≤ vec_capacity l.back;
}
