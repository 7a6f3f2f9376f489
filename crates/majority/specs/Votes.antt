-- Votes, and when a value is chosen.
use Rattle.std.specs.Prelude.{ℕ, List, All, Contains}
use Rattle.majority.specs.Ballots.{IsMajority}

-- that a replica accepted a value at a ballot
pub record Vote (V : Type 0) : Type 0 where
  pub replica : ℕ
  pub ballot : ℕ
  pub value : V

-- this vote was cast
abbrev pub HasVote : {V : Type 0} → List (Vote V) → ℕ → ℕ → V → Type 0
HasVote votes replica ballot value = Contains votes (record { replica = replica; ballot = ballot; value = value })

-- a majority accepted the value at the ballot
abbrev pub IsChosenAt : {V : Type 0} → ℕ → List (Vote V) → ℕ → V → Type 0
IsChosenAt n votes ballot value =
    (voters : List ℕ) × IsMajority n voters × All (λ replica. HasVote votes replica ballot value) voters

-- a majority accepted the value at one ballot
abbrev pub IsChosenByVotes : {V : Type 0} → ℕ → List (Vote V) → V → Type 0
IsChosenByVotes n votes value = (ballot : ℕ) × IsChosenAt n votes ballot value
