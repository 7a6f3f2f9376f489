use Rattle.std.proofs.Common.{◌+◌, ap, sym, ◌∙◌}
use Rattle.node_rules.specs.Turns.{Turn, turn_of, own_of, put_own}
use Rattle.shard_node.specs.States.{ReplicaState, with_promised}
use Rattle.shard_node.specs.Promises.{promise_some}
use Rattle.shard_node.proofs.Loops.{promise_more}
use Rattle.shard_node.proofs.promises.promise_some.Goals as goal

pub loop-replica-preserved : goal.loop-replica-preserved
loop-replica-preserved c =
    let before : Turn ReplicaState = turn_of c.loop-replica.replica c.loop-replica.out in
    record {
      rest =
          ap (λ (t : Turn ReplicaState). promise_some (put_own (with_promised ((own_of before).promised + 1) (own_of before)) t)) c.in_ok-promise_record.ensures
          ∙ promise_more before c.in-Some.position c.loop-replica-test.true (sym c.in-Some.ensures)
          ∙ c.loop-replica.invariant.rest;
      durable = c.loop-replica.invariant.durable;
    }
