-- The summary of what was gathered of a history.
use Rattle.std.specs.Prelude.{ℕ, ◌+◌, Bool, false, List, [], ◌∷◌, ◌++◌, length, count_by}
use Rattle.runs.specs.Names.{Config, Mark}
use Rattle.runs.specs.Names.marks
use Rattle.runs.specs.Outputs.{shown_after}
use Rattle.report_text.specs.Positions.{differ_line}
use Rattle.report_text.specs.inside.Confirming.{differing}
use Rattle.report_text.specs.Consumers.{state_line}
use Rattle.report_text.specs.inside.Consuming.{Consumed}
use Rattle.report_text.specs.inside.Submitting.{Submitted}
use Rattle.report_text.specs.inside.Gathering.{Gathered, numbered_lines}
use Rattle.report_text.specs.Summary.{is_data, totals_lines, data_line, quiet_line}

-- a mark that confirms a record of a client
abbrev pub confirms_data : Mark → Bool
confirms_data (marks.Confirm position rec) = is_data rec
confirms_data _ = false

abbrev pub data_among : List Mark → ℕ
data_among = count_by confirms_data

-- in all
abbrev pub all_submitted : List Submitted → ℕ
all_submitted [] = 0
all_submitted (s ∷ clients) = length s.bodies + all_submitted clients

abbrev pub all_acked : List Submitted → ℕ
all_acked [] = 0
all_acked (s ∷ clients) = length s.acked + all_acked clients

-- ---- as text

abbrev pub summed_consumer : Config → ℕ → Consumed → List ℕ
summed_consumer cfg number c = data_line number (data_among c.marks) ++ state_line number (shown_after cfg c.log)

abbrev pub summed_lines : Config → Bool → Gathered → List ℕ
summed_lines cfg quiet g =
    totals_lines (all_submitted g.clients) (all_acked g.clients)
    ++ numbered_lines (summed_consumer cfg) 0 g.consumers
    ++ differ_line (differing g.confirmed)
    ++ quiet_line quiet
