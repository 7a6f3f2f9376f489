use Rattle.msg_wire.proofs.MessageLaws.{messages_apart}
use Rattle.msg_wire.proofs.laws.no_message_begins_another.Goals as goal

pub returns : goal.returns
returns c = messages_apart
