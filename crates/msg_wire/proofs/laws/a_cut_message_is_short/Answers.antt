use Rattle.msg_wire.proofs.MessageLaws.{message_cut}
use Rattle.msg_wire.proofs.laws.a_cut_message_is_short.Goals as goal

pub returns : goal.returns
returns c = message_cut
