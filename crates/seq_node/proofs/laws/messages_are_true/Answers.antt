use Rattle.seq_node.proofs.Messages.{messages_are_true}
use Rattle.seq_node.proofs.laws.messages_are_true.Goals as goal

pub returns : goal.returns
returns c = messages_are_true
