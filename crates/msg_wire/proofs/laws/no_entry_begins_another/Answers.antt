use Rattle.msg_wire.proofs.ItemLaws.{entries_apart}
use Rattle.msg_wire.proofs.laws.no_entry_begins_another.Goals as goal

pub returns : goal.returns
returns c = entries_apart
