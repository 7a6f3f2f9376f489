use Rattle.std.proofs.Common.{◌≡◌, ◌+◌, ◌≤◌, ◌++◌, map, length}
use Rattle.std.specs.Vec.Iter.{into_iter_len}
use Rattle.std.specs.VecDeque.{deque_len, deque_capacity}
use Rattle.plan_crew.specs.Begins.{desk_side}
use Rattle.plan_crew.proofs.sides.push_desks.Given as goal

abbrev pub invariant-loop-taker : goal.invariant-loop-taker
invariant-loop-taker g l = record {
  items : l.sides.items ≡ l.fn.sides.items ++ map desk_side l.yielded;
  len : deque_len l.sides ≡ deque_len l.fn.sides + length l.yielded;
  capacity : deque_capacity l.sides ≡ deque_capacity l.fn.sides;
  room : deque_len l.sides + into_iter_len l.taker-iterator ≤ deque_capacity l.sides;
}
