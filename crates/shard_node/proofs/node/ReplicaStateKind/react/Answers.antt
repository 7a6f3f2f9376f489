use Rattle.shard_node.proofs.Lives.{step_valid}
use Rattle.shard_node.proofs.node.ReplicaStateKind.react.Goals as goal

pub returns-clause-sound : goal.returns-clause-sound
returns-clause-sound c = (step_valid c.args.replica.now _ c.args.event.now c.requires.sound c.requires.valid c.in_ok-react.ensures).0

pub returns-clause-valid : goal.returns-clause-valid
returns-clause-valid c = (step_valid c.args.replica.now _ c.args.event.now c.requires.sound c.requires.valid c.in_ok-react.ensures).1
