-- What all nodes have stored and shown so far, in order: each item with its node, each mark with its node and what the node knew then.
use Rattle.std.specs.Prelude.{List, [], ◌∷◌, ◌++◌, map}
use Rattle.net_model.specs.Pasts.{Past}
use Rattle.runs.specs.Names.{NodeId, Config, Entry, Item, Mark, HistoryEntry}
use Rattle.runs.specs.Kinds.{step_at}
use Rattle.runs.specs.Known.{known_at}

pub record StoredItem : Type 0 where
  pub node : NodeId
  pub item : Item

abbrev pub stored_in : Config → HistoryEntry → Past → List StoredItem
stored_in cfg e past = map (λ item. record { node = e.node; item = item }) (step_at cfg e.node past e.event).stable

abbrev pub all_stored : Config → Past → List StoredItem
all_stored cfg [] = []
all_stored cfg (e ∷ past) = all_stored cfg past ++ stored_in cfg e past

-- a step learns before it shows its first mark, so what its node knows after it is what it knew as it showed the mark
pub record ToldMark : Type 0 where
  pub node : NodeId
  pub known : List Entry
  pub mark : Mark

abbrev pub told_in : Config → HistoryEntry → Past → List ToldMark
told_in cfg e past = map (λ mark. record { node = e.node; known = known_at cfg e.node (e ∷ past); mark = mark }) e.marks

abbrev pub all_told : Config → Past → List ToldMark
all_told cfg [] = []
all_told cfg (e ∷ past) = all_told cfg past ++ told_in cfg e past
