use Rattle.std.proofs.Common.{ap, sym, ◌∙◌}
use Rattle.node_rules.specs.Turns.{Turn, turn_of}
use Rattle.shard_node.specs.States.{ReplicaState}
use Rattle.shard_node.specs.Rules.{replicate_again}
use Rattle.shard_node.proofs.Loops.{fold_next}
use Rattle.shard_node.proofs.rules.replicate_from.Goals as goal

pub loop-local-preserved : goal.loop-local-preserved
loop-local-preserved c =
    c.in_ok-replicate_again.ensures
    ∙ ap (λ (t : Turn ReplicaState). replicate_again t c.loop-local.local) c.loop-local.invariant
    ∙ sym (fold_next replicate_again (turn_of c.args.replica.now c.args.out.now) c.args.from c.loop-local.local c.loop-local.auto.local)
