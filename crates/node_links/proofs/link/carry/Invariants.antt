use Rattle.std.proofs.Common.{◌≡◌, ◌++◌, []}
use Rattle.std.specs.VecDeque.{deque_len}
use mathlib.Core.List.{IsPrefix}
use Rattle.rtrb.specs.Ring.{sent, received, known_items, SameProducer, SameConsumer}
use Rattle.node_links.specs.inside.Passes.{Passes}
use Rattle.node_links.proofs.link.carry.Given as goal

abbrev pub decreases-loop-out : goal.decreases-loop-out
decreases-loop-out l = deque_len l.waiting

abbrev pub invariant-loop-out : goal.invariant-loop-out
invariant-loop-out l = record {
  out : SameProducer l.fn.out l.out;
  into : SameConsumer l.fn.into l.into;
  queued : sent l.out ++ l.waiting.items ≡ sent l.fn.out ++ l.fn.waiting.items;
  passes : Passes (received l.fn.into) l.fn.ready.items (received l.into) l.ready.items;
  waits : IsPrefix (l.fn.ready.items ++ known_items l.fn.into) (l.ready.items ++ known_items l.into);
  all : received l.into ≡ sent l.out;
  none : known_items l.into ≡ [];
}
