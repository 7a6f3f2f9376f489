use Rattle.std.proofs.Common.{◌≡◌, ◌+◌, ◌≤◌, ◌++◌, length}
use Rattle.std.specs.VecDeque.{deque_len, deque_capacity}
use Rattle.rtrb.specs.Ring.{sent, received, known_items, SameConsumer}
use Rattle.node_links.specs.inside.Passes.{Passes}
use Rattle.node_links.proofs.link.empty.Given as goal

abbrev pub invariant-loop : goal.invariant-loop
invariant-loop l = record {
  into : SameConsumer l.initial.into l.into;
  passes : Passes (received l.initial.into) l.initial.ready.items (received l.into) l.ready.items;
  waits : l.ready.items ++ known_items l.into ≡ l.initial.ready.items ++ known_items l.initial.into;
  fifo : received l.into ++ known_items l.into ≡ sent l.out;
  left : length (known_items l.into) + l.counter ≡ l.count;
  room : deque_len l.ready + length (known_items l.into) ≤ deque_capacity l.ready;
}
