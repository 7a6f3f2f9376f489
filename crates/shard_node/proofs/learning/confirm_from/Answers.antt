use Rattle.std.proofs.Common.{ap, sym, ◌∙◌, arith}
use Rattle.node_rules.specs.Turns.{Turn, turn_of}
use Rattle.shard_node.specs.States.{ReplicaState}
use Rattle.shard_node.specs.Learning.{confirm}
use Rattle.shard_node.proofs.Loops.{fold_next}
use Rattle.shard_node.proofs.learning.confirm_from.Goals as goal

pub loop-local-preserved : goal.loop-local-preserved
loop-local-preserved c = record {
  confirmed =
      c.in_ok-confirm.ensures
      ∙ ap (λ (t : Turn ReplicaState). confirm t c.loop-local.local) c.loop-local.invariant.confirmed
      ∙ sym (fold_next confirm (turn_of c.args.replica.now c.args.out.now) c.args.before c.loop-local.local c.loop-local.auto.local);
  within = omega arith;
}
