-- Which entries are valid, and the spelling of each.
use Rattle.std.specs.Prelude.{ℕ, List, [], ◌∷◌, ◌++◌, length}
use Rattle.quota_table.specs.declared.rows.Row.{Row}
use Rattle.quota_table.specs.declared.entry.Entry.{Entry}
use Rattle.quota_table.specs.declared.entry.Entry.TheVariants.{Nothing, Cut, Table, Remove}
use Rattle.record_codec.specs.Fields.{two, four}

-- rows one after the other, each a shard and a quota
abbrev pub rows_spelling : List Row → List ℕ
rows_spelling [] = []
rows_spelling (row ∷ rows) = row.shard ∷ row.quota ∷ rows_spelling rows

-- the one spelling of an entry
abbrev pub entry_spelling : Entry → List ℕ
entry_spelling Nothing = 0 ∷ []
entry_spelling (Cut window round) = 1 ∷ four window ++ two round
entry_spelling (Table after rounds rows) = 2 ∷ four after ++ two rounds ++ length rows ∷ rows_spelling rows
entry_spelling (Remove window shard) = 3 ∷ four window ++ shard ∷ []
