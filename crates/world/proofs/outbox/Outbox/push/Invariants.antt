use Rattle.std.proofs.Common.{◌≡◌, ◌++◌, false, replicate}
use Rattle.world.proofs.outbox.Outbox.push.Given as goal

abbrev pub invariant-loop : goal.invariant-loop
invariant-loop l = record {
  flagged : l.self-inside.settled.items ≡ l.initial.self-inside.settled.items ++ replicate l.counter false;
  next : l.self-inside.next ≡ l.initial.self-inside.next;
}
