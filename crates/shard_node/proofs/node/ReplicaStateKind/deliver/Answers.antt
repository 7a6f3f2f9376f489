use Rattle.node_rules.specs.Names.events
use Rattle.shard_node.proofs.Lives.{step_valid}
use Rattle.shard_node.proofs.node.ReplicaStateKind.deliver.Goals as goal

pub returns-clause-sound : goal.returns-clause-sound
returns-clause-sound c = (step_valid c.args.replica.now _ (events.Deliver c.args.message.now) c.requires.sound c.requires.valid c.in_ok-deliver.ensures).0

pub returns-clause-valid : goal.returns-clause-valid
returns-clause-valid c = (step_valid c.args.replica.now _ (events.Deliver c.args.message.now) c.requires.sound c.requires.valid c.in_ok-deliver.ensures).1
