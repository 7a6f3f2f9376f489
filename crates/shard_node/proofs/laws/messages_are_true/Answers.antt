use Rattle.shard_node.proofs.Messages.{messages_are_true}
use Rattle.shard_node.proofs.laws.messages_are_true.Goals as goal

pub returns : goal.returns
returns c = messages_are_true
