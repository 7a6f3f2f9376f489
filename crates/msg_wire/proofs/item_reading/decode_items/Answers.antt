use Rattle.std.proofs.Common.{arith}
use Rattle.msg_wire.proofs.ItemLaws.{items_found, items_only}
use Rattle.msg_wire.proofs.item_reading.decode_items.Goals as goal

pub returns-clause-found : goal.returns-clause-found
returns-clause-found c = items_found c.args.bytes.now c.whole_items.result (λ i. omega (arith, c.type_inv.bytes i)) c.whole_items.ensures

pub returns-clause-only : goal.returns-clause-only
returns-clause-only c = items_only c.args.bytes.now c.whole_items.result c.whole_items.ensures
