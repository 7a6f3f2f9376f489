use Rattle.std.proofs.Common.{ap, sym, ◌∙◌, ℕ}
use Rattle.node_rules.specs.Names.records.{Noop}
use Rattle.node_rules.specs.Turns.{Turn, turn_of}
use Rattle.shard_node.specs.States.{ReplicaState}
use Rattle.shard_node.specs.Logs.{replicate_at}
use Rattle.shard_node.proofs.Loops.{fold_next}
use Rattle.shard_node.proofs.logs.replicate_noops.Goals as goal

pub loop-local-preserved : goal.loop-local-preserved
loop-local-preserved c =
    c.in_ok-replicate_at.ensures
    ∙ ap (replicate_at c.loop-local.local Noop) c.loop-local.invariant
    ∙ sym (fold_next (λ (t : Turn ReplicaState) (local : ℕ). replicate_at local Noop t) (turn_of c.args.replica.now c.args.out.now) c.args.from c.loop-local.local c.loop-local.auto.local)
