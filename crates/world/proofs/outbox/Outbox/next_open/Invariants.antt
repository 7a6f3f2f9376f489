use Rattle.std.proofs.Common.{◌≡◌, ◌-◌, ◌≤◌, length}
use Rattle.world.specs.inside.Outboxes.{AreSettledBelow}
use Rattle.world.proofs.outbox.Outbox.next_open.Given as goal

abbrev pub invariant-loop-self : goal.invariant-loop-self
invariant-loop-self l = record {
  same : l.self-inside ≡ record (l.initial.self-inside) { next = l.self-inside.next };
  within : l.self-inside.next ≤ length l.self-inside.settled.items;
  below : AreSettledBelow l.self-inside.next l.self-inside.settled.items;
}

abbrev pub decreases-loop-self : goal.decreases-loop-self
decreases-loop-self l = length l.self-inside.settled.items - l.self-inside.next
