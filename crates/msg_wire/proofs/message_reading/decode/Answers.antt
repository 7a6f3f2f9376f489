use Rattle.std.proofs.Common.{arith}
use Rattle.msg_wire.proofs.MessageLaws.{message_found, message_only}
use Rattle.msg_wire.proofs.message_reading.decode.Goals as goal

pub returns-clause-found : goal.returns-clause-found
returns-clause-found c = message_found c.args.bytes.now c.whole_message.result (λ i. omega (arith, c.type_inv.bytes i)) c.whole_message.ensures

pub returns-clause-only : goal.returns-clause-only
returns-clause-only c = message_only c.args.bytes.now c.whole_message.result c.whole_message.ensures
