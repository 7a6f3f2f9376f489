-- The one spelling of each list of items.
use Rattle.std.specs.Prelude.{ℕ, List, [], ◌∷◌, ◌++◌, length}
use Rattle.record_codec.specs.Fields.{four, eight, sized}
use Rattle.record_codec.specs.Records.{record_spelling}
use Rattle.record_codec.specs.Entries.{entry_spelling}
use Rattle.msg_wire.specs.Names.{Item}
use Rattle.msg_wire.specs.Names.items

-- the tag of each kind of item
abbrev pub tag_of : Item → ℕ
tag_of (items.Promised slot ballot) = 1
tag_of (items.Accepted slot ballot entry) = 2
tag_of (items.Known entry) = 3
tag_of (items.Taken rec) = 4
tag_of (items.Noops count) = 5
tag_of (items.Submitted body) = 6
tag_of items.Acked = 7
tag_of (items.Moved shard first) = 8
tag_of (items.Confirmed rec output) = 9

-- the fields of an item, one after the other
abbrev pub item_fields : Item → List ℕ
item_fields (items.Promised slot ballot) = four slot ++ four ballot
item_fields (items.Accepted slot ballot entry) = four slot ++ four ballot ++ entry_spelling entry
item_fields (items.Known entry) = entry_spelling entry
item_fields (items.Taken rec) = record_spelling rec
item_fields (items.Noops count) = count ∷ []
item_fields (items.Submitted body) = sized body
item_fields items.Acked = []
item_fields (items.Moved shard first) = shard ∷ eight first
item_fields (items.Confirmed rec output) = record_spelling rec ++ length output ∷ output

abbrev pub item_spelling : Item → List ℕ
item_spelling item = tag_of item ∷ item_fields item

-- items one after the other
abbrev pub items_spelling : List Item → List ℕ
items_spelling [] = []
items_spelling (item ∷ rest) = item_spelling item ++ items_spelling rest
