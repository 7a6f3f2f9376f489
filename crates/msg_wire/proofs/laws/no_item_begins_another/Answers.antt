use Rattle.msg_wire.proofs.ItemLaws.{items_apart}
use Rattle.msg_wire.proofs.laws.no_item_begins_another.Goals as goal

pub returns : goal.returns
returns c = items_apart
