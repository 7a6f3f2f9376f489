use Rattle.std.proofs.Common.{◌≡◌, ◌+◌, ◌++◌, replicate}
use Rattle.std.specs.VecDeque.{deque_len, deque_capacity}
use Rattle.cluster_crew.specs.declared.member.Side.TheVariants.{None as bare_side}
use Rattle.plan_crew.proofs.sides.push_bare.Given as goal

abbrev pub invariant-loop-node : goal.invariant-loop-node
invariant-loop-node g l = record {
  items : l.sides.items ≡ l.fn.sides.items ++ replicate l._node bare_side;
  len : deque_len l.sides ≡ deque_len l.fn.sides + l._node;
  capacity : deque_capacity l.sides ≡ deque_capacity l.fn.sides;
}
