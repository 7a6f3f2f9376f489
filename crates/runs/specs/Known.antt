-- What a node knows of the agreed list, by its stable items.
use Rattle.std.specs.Prelude.{ℕ, List}
use Rattle.cut_core.specs.Agreements.{Agreement}
use Rattle.cut_core.specs.Fold.{fold_of}
use Rattle.net_model.specs.Pasts.{Past}
use Rattle.node_rules.specs.Nodes.{first_window}
use Rattle.runs.specs.Names.{NodeId, Side, Config, Entry, Record}
use Rattle.runs.specs.Names.nodes
use Rattle.runs.specs.Names.sides
use Rattle.runs.specs.Kinds.{items_at}
use Rattle.runs.specs.Marks.{known_by, log_by}

-- what a list of entries agrees on, from the cluster's first window on
abbrev pub agreed_after : Config → List Entry → Agreement
agreed_after cfg entries = fold_of (first_window cfg) entries

abbrev pub known_at : Config → NodeId → Past → List Entry
known_at cfg node past = known_by (items_at cfg node past)

-- what the entries that a node knows agree on
abbrev pub agreed_at : Config → NodeId → Past → Agreement
agreed_at cfg node past = agreed_after cfg (known_at cfg node past)

-- a replica's log
abbrev pub log_at : Config → ℕ → Side → Past → List Record
log_at cfg shard side past = log_by (items_at cfg (nodes.Shard shard side) past)

-- the log of a shard that counts
abbrev pub held_log : Config → ℕ → Past → List Record
held_log cfg shard past = log_at cfg shard sides.Backup past
