-- What one client's entries show, gathered in order.
use Rattle.std.specs.Prelude.{ℕ, List, [], ◌++◌, length}
use Rattle.net_model.specs.Pasts.{body_in}
use Rattle.runs.specs.Names.{HistoryEntry}
use Rattle.runs.specs.Marks.{acks}
use Rattle.report_text.specs.Clients.{lines_of_acks}

-- the bodies that it was given, and the numbers and positions of its acknowledgements
pub record Submitted : Type 0 where
  pub bodies : List (List ℕ)
  pub acked : List (ℕ × ℕ)

abbrev pub nothing_submitted : Submitted
nothing_submitted = record { bodies = []; acked = [] }

-- one entry more
abbrev pub with_own_entry : Submitted → HistoryEntry → Submitted
with_own_entry s e = record { bodies = s.bodies ++ body_in e.event; acked = s.acked ++ acks e.marks }

abbrev pub submitted_lines : ℕ → Submitted → List ℕ
submitted_lines number s = lines_of_acks number (length s.bodies) s.acked
