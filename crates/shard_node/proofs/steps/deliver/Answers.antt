use Rattle.std.proofs.Common.{ap, sym, subst, ◌∙◌}
use Rattle.node_rules.specs.Names.events
use Rattle.node_rules.specs.Turns.{turn_of}
use Rattle.node_rules.proofs.Kept.{IsKept}
use Rattle.shard_node.specs.Steps.{handle}
use Rattle.shard_node.proofs.Keeps.{replica_keeping}
use Rattle.shard_node.proofs.Lives.{kept_handle}
use Rattle.shard_node.proofs.steps.deliver.Goals as goal

pub promise_all-requires : goal.promise_all-requires
promise_all-requires c =
    let n = c.args.replica.now in
    let event = events.Deliver c.args.message.now in
    (subst (IsKept replica_keeping n) (sym (c.in_ok-heed.ensures ∙ ap (handle event) (ap (turn_of n) c.requires.empty))) (kept_handle n event c.requires.sound c.requires.valid)).is.own.durable
