-- The lines of the confirmed log, position by position, and how many positions have two records.
use Rattle.std.specs.Prelude.{ℕ, ◌+◌, ◌==◌, ◌&&◌, Bool, true, false, not, max, if◌then◌else◌, List, [], ◌∷◌, ◌++◌, fold, flat_map, filter_map, count_by, slice_get, bytes_eq, codes, Option, Some, None}
use Rattle.std.specs.List.{range_with_len, list_any}
use Rattle.std.specs.Option.{option_map_or}
use Rattle.runs.specs.Names.{Record}
use Rattle.runs.specs.Names.records
use Rattle.report_text.specs.Lines.{counted, ended}

-- ---- what stands at a position, among confirmations in order

abbrev pub record_if : ℕ → ℕ × Record → Option Record
record_if position confirmation = if confirmation.0 == position then Some confirmation.1 else None

-- the records that are confirmed there
abbrev pub records_at : List (ℕ × Record) → ℕ → List Record
records_at confirmed position = filter_map (record_if position) confirmed

-- one past the greatest position
abbrev pub end_confirmed : List (ℕ × Record) → ℕ
end_confirmed confirmed = fold (λ end c. max end (c.0 + 1)) 0 confirmed

abbrev pub same_record : Record → Record → Bool
same_record records.Noop records.Noop = true
same_record (records.Data client number body) (records.Data other at text) = (client == other) && ((number == at) && bytes_eq body text)
same_record _ _ = false

-- two of the records differ: one differs from the first
abbrev pub differ : List Record → Bool
differ [] = false
differ (rec ∷ later) = list_any (λ other. not (same_record rec other)) later

-- ---- lines

unfoldable pub log_line : ℕ → Record → List ℕ
log_line position (records.Data client number body) =
    ended (counted (codes "log ") position ++ counted (codes " c") client ++ counted (codes " ") number ++ codes " " ++ body)
log_line position records.Noop = ended (counted (codes "log ") position ++ codes " noop")

-- the first record at a position, where there is one
abbrev pub line_of_position : List (ℕ × Record) → ℕ → List ℕ
line_of_position confirmed position = option_map_or (log_line position) (slice_get (records_at confirmed position) 0) []

-- of each position, rising
abbrev pub log_lines : List (ℕ × Record) → List ℕ
log_lines confirmed = flat_map (line_of_position confirmed) (range_with_len 0 (end_confirmed confirmed))

-- at how many positions two different records are confirmed
abbrev pub count_differing : List (ℕ × Record) → ℕ
count_differing confirmed = count_by (λ position. differ (records_at confirmed position)) (range_with_len 0 (end_confirmed confirmed))

unfoldable pub differ_line : ℕ → List ℕ
differ_line count = ended (counted (codes "differ ") count)
