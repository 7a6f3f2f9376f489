-- The report of a history.
use Rattle.std.specs.Prelude.{ℕ, List, ◌++◌, length, codes}
use Rattle.net_model.specs.Pasts.{Past, past_of, sent, shown}
use Rattle.runs.specs.Names.{Config, HistoryEntry}
use Rattle.runs.specs.Marks.{confirmations}
use Rattle.report_text.specs.Lines.{counted, ended}
use Rattle.report_text.specs.Slots.{slot_lines}
use Rattle.report_text.specs.Positions.{log_lines, count_differing, differ_line}
use Rattle.report_text.specs.Consumers.{consumer_lines}
use Rattle.report_text.specs.Clients.{client_lines}

-- the version, and how many entries there are
unfoldable pub head_lines : ℕ → List ℕ
head_lines entries = ended (codes "belfast 1") ++ ended (counted (codes "entries ") entries)

-- what was decided, the confirmed log, the consumers, the clients, and how many positions have two records
abbrev pub report_after : Config → Past → List ℕ
report_after cfg past =
    head_lines (length past)
    ++ slot_lines cfg (sent past)
    ++ log_lines (confirmations (shown past))
    ++ consumer_lines cfg past
    ++ client_lines cfg past
    ++ differ_line (count_differing (confirmations (shown past)))

-- of a history, the oldest entry first
abbrev pub report_of : Config → List HistoryEntry → List ℕ
report_of cfg history = report_after cfg (past_of history)
