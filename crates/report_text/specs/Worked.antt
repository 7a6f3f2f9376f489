-- Two reports, worked out by hand.
use Rattle.std.specs.Prelude.{◌≡◌, List, ℕ, [], ◌∷◌, ◌++◌, codes}
use Rattle.node_rules.specs.Examples.{single, pair, two_rows, q0, s1p, c0, k0, five, seven, sent}
use Rattle.runs.specs.Names.{NodeId, Mark, HistoryEntry}
use Rattle.runs.specs.Names.entries
use Rattle.runs.specs.Names.records
use Rattle.runs.specs.Names.events
use Rattle.runs.specs.Names.marks
use Rattle.runs.specs.Names.whats
use Rattle.report_text.specs.Report.{report_of}

abbrev shows : NodeId → List Mark → HistoryEntry
shows node shown = record { node = node; event = events.Tick; sends = []; marks = shown }

-- no run: one history that has each kind of line. Slot 3 is told by nobody; slot 0 is told twice, and the first counts
abbrev pub mixed : List HistoryEntry
mixed =
    record { node = c0; event = events.Submit 0 (53 ∷ []); sends = []; marks = [] }
    ∷ record {
      node = q0;
      event = events.Tick;
      sends =
          sent q0 k0 (whats.Decided 4 5 (entries.Table 0 2 two_rows))
          ∷ sent q0 k0 (whats.Decided 0 1 (entries.Remove 0 0))
          ∷ sent q0 k0 (whats.Decided 1 2 (entries.Cut 0 0))
          ∷ sent q0 k0 (whats.Learn 5)
          ∷ sent q0 k0 (whats.Decided 0 1 entries.Nothing)
          ∷ sent q0 k0 (whats.Decided 2 3 entries.Nothing) ∷ [];
      marks = [];
    }
    ∷ shows k0 (marks.Apply 0 seven ∷ marks.Apply 1 five ∷ [])
    ∷ shows k0 (marks.Notice 0 ∷ marks.Undo 0 ∷ marks.Apply 0 five ∷ marks.Confirm 0 five ∷ marks.Out (53 ∷ 10 ∷ []) ∷ marks.Apply 1 records.Noop ∷ [])
    ∷ shows k0 (marks.Confirm 1 records.Noop ∷ [])
    ∷ shows s1p (marks.Confirm 0 seven ∷ marks.Promise 2 five ∷ [])
    ∷ shows c0 (marks.Ack 0 0 ∷ [])
    ∷ []

abbrev pub nothing_happened : List ℕ
nothing_happened =
    codes "belfast 1\n" ++ codes "entries 0\n"
    ++ codes "consumer k0 confirmed 0 applied 0 early 0 undone 0 notices 0\n" ++ codes "state k0 sum 0 count 0\n"
    ++ codes "client c0 submitted 0 acked 0\n" ++ codes "differ 0\n"

abbrev pub of_mixed : List ℕ
of_mixed =
    codes "belfast 1\n" ++ codes "entries 7\n"
    ++ codes "slot 0 remove 0 0\n" ++ codes "slot 1 cut 0 0 void\n" ++ codes "slot 2 nothing\n" ++ codes "slot 4 table 0 2 0:1 1:1\n"
    ++ codes "log 0 c0 0 5\n" ++ codes "log 1 noop\n"
    ++ codes "consumer k0 confirmed 2 applied 2 early 1 undone 2 notices 1\n" ++ codes "notice k0 0\n" ++ codes "out k0 5\n" ++ codes "state k0 sum 5 count 1\n"
    ++ codes "client c0 submitted 1 acked 1\n" ++ codes "ack c0 0 0\n" ++ codes "differ 1\n"

pub record Worked : Type 0 where
  pub of_nothing : report_of single [] ≡ nothing_happened
  pub of_each_line : report_of pair mixed ≡ of_mixed
