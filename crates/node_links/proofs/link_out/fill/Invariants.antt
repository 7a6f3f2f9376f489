use Rattle.std.proofs.Common.{◌≡◌, ◌+◌, ◌++◌, take, drop}
use Rattle.rtrb.specs.Ring.{sent, known_free, SameProducer}
use Rattle.node_links.proofs.link_out.fill.Given as goal

abbrev pub invariant-loop : goal.invariant-loop
invariant-loop l = record {
  ring : SameProducer l.fn.ring l.ring;
  pushed : sent l.ring ≡ sent l.fn.ring ++ take l.counter l.fn.waiting.items;
  rest : l.waiting.items ≡ drop l.counter l.fn.waiting.items;
  free : known_free l.ring + l.counter ≡ known_free l.fn.ring;
}
