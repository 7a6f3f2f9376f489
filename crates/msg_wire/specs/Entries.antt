-- Tests of entries.
use Rattle.std.specs.Prelude.{Bool, true, false, ◌&&◌, ◌==◌, Option, Some, None}
use Rattle.quota_table.specs.Rows.{rows_eq}
use Rattle.msg_wire.specs.Names.{Entry}
use Rattle.msg_wire.specs.Names.entries

abbrev pub same_entry : Entry → Entry → Bool
same_entry entries.Nothing entries.Nothing = true
same_entry (entries.Cut window round) (entries.Cut other at) = (window == other) && (round == at)
same_entry (entries.Table after rounds rows) (entries.Table other count others) = (after == other) && ((rounds == count) && rows_eq rows others)
same_entry (entries.Remove window shard) (entries.Remove other gone) = (window == other) && (shard == gone)
same_entry _ _ = false

-- the entry, where there is one, is this one
abbrev pub is_entry : Option Entry → Entry → Bool
is_entry None entry = false
is_entry (Some other) entry = same_entry other entry
