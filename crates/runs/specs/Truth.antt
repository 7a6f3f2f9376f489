-- Confirmed records were submitted, each once and in its client's order, and acknowledgements are true.
use Rattle.std.specs.Prelude.{◌≡◌, ℕ, List, map, slice_get, Some}
use Rattle.std.specs.List.{AllByRecursion}
use Rattle.std.specs.Ordering.{nat_cmp}
use Rattle.net_model.specs.Pasts.{Past, Throughout, marks_of, submissions_of}
use Rattle.runs.specs.Names.{NodeId, Mark, HistoryEntry}
use Rattle.runs.specs.Names.nodes
use Rattle.runs.specs.Names.records
use Rattle.runs.specs.Names.marks
use Rattle.runs.specs.Marks.{IsCounted, IsConfirmed, confirmed_list, numbers_of_client, acks}

-- the numbers that a client was acknowledged
abbrev pub acked_numbers : ℕ → Past → List ℕ
acked_numbers client past = map (λ a. a.0) (acks (marks_of (nodes.Client client) past))

-- what a client is told stands there: its record of that number was confirmed at that position before
abbrev pub IsTrueAck : Past → NodeId → Mark → Type 0
IsTrueAck past (nodes.Client client) (marks.Ack number position) = (body : List ℕ) × IsConfirmed past position (records.Data client number body)
IsTrueAck past _ _ = Unit {0}

abbrev pub AcksAreTrue : Past → HistoryEntry → Type 0
AcksAreTrue past e = AllByRecursion (IsTrueAck past e.node) e.marks

pub record IsTruthful (past : Past) : Type 0 where
  -- a confirmed record is the client's submission of that number
  pub submitted : (position client number : ℕ) (body : List ℕ) →
      IsConfirmed past position (records.Data client number body) → slice_get (submissions_of (nodes.Client client) past) number ≡ Some body
  -- of two confirmed records of a client the numbers compare as the positions do
  pub in_order : (client : ℕ) (position number : ℕ) (body : List ℕ) (place other : ℕ) (text : List ℕ) →
      IsConfirmed past position (records.Data client number body) → IsConfirmed past place (records.Data client other text) →
      nat_cmp number other ≡ nat_cmp position place
  -- in a consumer's confirmed list each client's numbers are 0, 1, 2 and so on
  pub whole : (consumer client : ℕ) → IsCounted (numbers_of_client client (confirmed_list consumer past))
  -- a client is acknowledged each number once, in order
  pub acked : (client : ℕ) → IsCounted (acked_numbers client past)
  pub acks_are_true : Throughout AcksAreTrue past
