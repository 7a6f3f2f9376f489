-- What the steps of a node store: an entry for each step that has something to store.
use Rattle.std.specs.Prelude.{Bool, true, false, List, [], ◌∷◌, ◌++◌}
use Rattle.msg_wire.specs.Nodes.{same_node}
use Rattle.net_model.specs.Names.{NodeId, Item, Event}
use Rattle.net_model.specs.Pasts.{Past}
use Rattle.net_model.specs.Tables.{StepTable, state_of}

-- lists of items, one for each entry of a vault
abbrev pub Chunks : Type 0
Chunks = List (List Item)

-- one entry, or none where there is no item
abbrev pub chunk_of : List Item → Chunks
chunk_of [] = []
chunk_of (item ∷ items) = (item ∷ items) ∷ []

abbrev pub chunk_if : {S : Type 0} → Bool → StepTable S → S → Event → Chunks
chunk_if true table state event = chunk_of (table.gives state event).stable
chunk_if false table state event = []

-- what the steps of a node stored, the oldest first
abbrev pub chunks_of : {S : Type 0} → StepTable S → NodeId → Past → Chunks
chunks_of table node [] = []
chunks_of table node (e ∷ past) = chunks_of table node past ++ chunk_if (same_node e.node node) table (state_of table node past) e.event

-- all items of them
abbrev pub all_items : Chunks → List Item
all_items [] = []
all_items (items ∷ chunks) = items ++ all_items chunks
