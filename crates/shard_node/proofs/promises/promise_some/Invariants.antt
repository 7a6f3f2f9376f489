use Rattle.std.proofs.Common.{◌≡◌, ◌-◌, ◌≤◌, ◌^◌}
use Rattle.node_rules.specs.Turns.{turn_of}
use Rattle.shard_node.specs.Promises.{promise_some}
use Rattle.shard_node.proofs.promises.promise_some.Given as goal

abbrev pub invariant-loop-replica : goal.invariant-loop-replica
invariant-loop-replica l = record {
  rest : promise_some (turn_of l.replica l.out) ≡ promise_some (turn_of l.fn.replica l.fn.out);
  durable : l.replica.own.durable ≤ 2 ^ 48;
}

abbrev pub decreases-loop-replica : goal.decreases-loop-replica
decreases-loop-replica l = l.replica.own.durable - l.replica.own.promised
