use Rattle.shard_node.proofs.steps.hear.Goals as goal

pub returns-in-Replicated : goal.returns-in-Replicated
returns-in-Replicated c = rw c.in-Replicated.is (c.hear_replicated.ensures c.args.out.now)
