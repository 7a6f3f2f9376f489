-- The lines of what was decided, slot by slot.
use Rattle.std.specs.Prelude.{ℕ, ◌+◌, ◌==◌, ◌&&◌, Bool, max, is_some, if◌then◌else◌, List, [], ◌++◌, map, length, fold, flat_map, filter_map, slice_get, codes, Option, Some, None}
use Rattle.std.specs.List.{range_with_len}
use Rattle.std.specs.Option.{option_map_or, some_prefix}
use Rattle.quota_table.specs.declared.rows.Row.{Row}
use Rattle.cut_core.specs.Reasons.{fault_of}
use Rattle.runs.specs.Names.{Config, Entry, Message, What}
use Rattle.runs.specs.Names.entries
use Rattle.runs.specs.Names.whats
use Rattle.runs.specs.Known.{agreed_after}
use Rattle.report_text.specs.Lines.{counted, ended}

-- ---- what was told as decided

-- the entry of a message that tells this slot's
abbrev pub told_by : ℕ → What → Option Entry
told_by slot (whats.Decided at count entry) = if at == slot then Some entry else None
told_by slot _ = None

-- the entry of the first message that tells the slot's
abbrev pub first_told : List Message → ℕ → Option Entry
first_told messages slot = slice_get (filter_map (λ (m : Message). told_by slot m.what) messages) 0

-- one past the greatest slot that a message tells
abbrev pub end_told_by : What → ℕ
end_told_by (whats.Decided slot count entry) = slot + 1
end_told_by _ = 0

abbrev pub end_told : List Message → ℕ
end_told messages = fold (λ end (m : Message). max end (end_told_by m.what)) 0 messages

-- the entries of the slots below one, up to the first that no message tells
abbrev pub told_below : List Message → ℕ → List Entry
told_below messages slot = some_prefix (map (first_told messages) (range_with_len 0 slot))

-- each lower slot is told too, and after their entries this one doesn't fit
abbrev pub is_void : Config → List Message → ℕ → Entry → Bool
is_void cfg messages slot entry =
    (length (told_below messages slot) == slot) && is_some (fault_of (agreed_after cfg (told_below messages slot)) entry)

-- ---- lines

abbrev pub row_words : Row → List ℕ
row_words r = counted (codes " ") r.shard ++ counted (codes ":") r.quota

abbrev pub entry_words : Entry → List ℕ
entry_words entries.Nothing = codes " nothing"
entry_words (entries.Cut window round) = counted (codes " cut ") window ++ counted (codes " ") round
entry_words (entries.Table after rounds rows) = counted (codes " table ") after ++ counted (codes " ") rounds ++ flat_map row_words rows
entry_words (entries.Remove window shard) = counted (codes " remove ") window ++ counted (codes " ") shard

unfoldable pub slot_line : ℕ → Entry → Bool → List ℕ
slot_line slot entry void = ended (counted (codes "slot ") slot ++ entry_words entry ++ (if void then codes " void" else []))

-- the line of a slot, where it was told
abbrev pub line_of_slot : Config → List Message → ℕ → List ℕ
line_of_slot cfg messages slot = option_map_or (λ entry. slot_line slot entry (is_void cfg messages slot entry)) (first_told messages slot) []

-- of each slot, rising
abbrev pub slot_lines : Config → List Message → List ℕ
slot_lines cfg messages = flat_map (line_of_slot cfg messages) (range_with_len 0 (end_told messages))
