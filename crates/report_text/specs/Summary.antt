-- The summary of a run.
use Rattle.std.specs.Prelude.{ℕ, Bool, true, false, if◌then◌else◌, List, ◌++◌, length, flat_map, sum_by, count_by, codes}
use Rattle.std.specs.List.{range_with_len}
use Rattle.net_model.specs.Pasts.{Past, past_of, shown, marks_of, submissions_of}
use Rattle.runs.specs.Names.{Config, Record, HistoryEntry}
use Rattle.runs.specs.Names.nodes
use Rattle.runs.specs.Names.records
use Rattle.runs.specs.Marks.{confirmations, confirmed_list, applied_log, acks}
use Rattle.runs.specs.Outputs.{shown_after}
use Rattle.report_text.specs.Lines.{counted, ended}
use Rattle.report_text.specs.Positions.{count_differing, differ_line}
use Rattle.report_text.specs.Consumers.{state_line}

-- a record of a client, and no filled place
abbrev pub is_data : Record → Bool
is_data (records.Data client number body) = true
is_data records.Noop = false

-- ---- counts

-- what a client was given, and what it was acknowledged
abbrev pub count_submitted : Past → ℕ → ℕ
count_submitted past client = length (submissions_of (nodes.Client client) past)

abbrev pub count_acked : Past → ℕ → ℕ
count_acked past client = length (acks (marks_of (nodes.Client client) past))

-- the sum of a count over all clients
abbrev pub over_clients : Config → (ℕ → ℕ) → ℕ
over_clients cfg count = sum_by count (range_with_len 0 (length cfg.homes))

-- the records of clients in a consumer's confirmed list
abbrev pub count_data : Past → ℕ → ℕ
count_data past consumer = count_by is_data (confirmed_list consumer past)

-- ---- lines

unfoldable pub version_line : List ℕ
version_line = ended (codes "belfast-run 1")

-- what all clients were given, and what they were acknowledged
unfoldable pub submitted_line : ℕ → List ℕ
submitted_line submitted = ended (counted (codes "submitted ") submitted)

unfoldable pub acked_line : ℕ → List ℕ
acked_line acked = ended (counted (codes "acked ") acked)

abbrev pub totals_lines : ℕ → ℕ → List ℕ
totals_lines submitted acked = version_line ++ submitted_line submitted ++ acked_line acked

unfoldable pub data_line : ℕ → ℕ → List ℕ
data_line number data_count = ended (counted (codes "consumer k") number ++ counted (codes " data ") data_count)

unfoldable pub quiet_line : Bool → List ℕ
quiet_line quiet = ended (codes "quiet " ++ (if quiet then codes "yes" else codes "no"))

-- a consumer's confirmed records, and its state after its applied ones
abbrev pub summary_of_consumer : Config → Past → ℕ → List ℕ
summary_of_consumer cfg past number = data_line number (count_data past number) ++ state_line number (shown_after cfg (applied_log number past))

-- totals, the consumers, at how many positions two records differ, and whether the run is quiet
abbrev pub summary_after : Config → Past → Bool → List ℕ
summary_after cfg past quiet =
    totals_lines (over_clients cfg (count_submitted past)) (over_clients cfg (count_acked past))
    ++ flat_map (summary_of_consumer cfg past) (range_with_len 0 cfg.consumers)
    ++ differ_line (count_differing (confirmations (shown past)))
    ++ quiet_line quiet

-- of a history, the oldest entry first
abbrev pub summary_of : Config → List HistoryEntry → Bool → List ℕ
summary_of cfg history quiet = summary_after cfg (past_of history) quiet
