-- Entries with each field in its range.
use Rattle.std.specs.Prelude.{ℕ, ◌≤◌, ◌<◌}
use Rattle.quota_table.specs.declared.entry.Entry.{Entry}
use Rattle.quota_table.specs.declared.entry.Entry.TheVariants.{Nothing, Cut, Table, Remove}
use Rattle.quota_table.specs.Rows.{IsTable}

-- the number of a window, at most that of one made in the last slot
abbrev pub IsWindowNumber : ℕ → Type 0
IsWindowNumber window = window ≤ 1000000

-- how many rounds a window may have
abbrev pub AreRounds : ℕ → Type 0
AreRounds rounds = (1 ≤ rounds) × (rounds ≤ 1024)

-- an entry with each field in its range
abbrev pub IsValidEntry : Entry → Type 0
IsValidEntry Nothing = Unit {0}
IsValidEntry (Cut window round) = IsWindowNumber window × (round < 1024)
IsValidEntry (Table after rounds rows) = IsWindowNumber after × AreRounds rounds × IsTable rows
IsValidEntry (Remove window shard) = IsWindowNumber window × (shard ≤ 5)
