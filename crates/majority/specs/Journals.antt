-- What the journals of a majority tell of the chosen values.
use Rattle.std.specs.Prelude.{◌≡◌, ℕ, ◌+◌, ◌*◌, ◌/◌, ◌<◌, ◌≤◌, List, [], ◌∷◌, length, All, map, nat_eq, slice_get, option_map, Option, Some, None}
use Rattle.std.specs.List.{IsDistinct}
use Rattle.majority.specs.Acceptors.{AcceptorState}
use Rattle.majority.specs.Proposers.{greater_report}
use Rattle.majority.specs.declared.journal.VoteJournal.{VoteJournal}
use Rattle.majority.specs.declared.errors.RecoverError.{RecoverError}
use Rattle.majority.specs.declared.errors.RecoverError.TheVariants as recovering

-- the acceptance, where the journal reaches the slot and has one there
abbrev pub vote_found : {V : Type 0} → Option (Option (ℕ × V)) → Option (ℕ × V)
vote_found None = None
vote_found (Some vote) = vote

-- the acceptance of the greatest ballot that the journals have for the slot, of the first journal among equals
abbrev pub greatest_at : {V : Type 0} → ℕ → List (VoteJournal V) → Option (ℕ × V)
greatest_at slot [] = None
greatest_at slot (journal ∷ journals) = greater_report (vote_found (slice_get journal.votes slot)) (greatest_at slot journals)

-- the value that the journals tell for the slot
abbrev pub value_told : {V : Type 0} → ℕ → List (VoteJournal V) → Option V
value_told slot journals = option_map (λ vote. vote.1) (greatest_at slot journals)

-- the values that the journals tell: of each slot that of the greatest ballot, up to the first slot without an acceptance
pub record IsRecovered {V : Type 0} (journals : List (VoteJournal V)) (values : List V) : Type 0 where
  pub each : (slot : ℕ) → slot < length values → value_told slot journals ≡ slice_get values slot
  pub ends : greatest_at (length values) journals ≡ None

-- journals of distinct replicas below n
pub record AreOfReplicas {V : Type 0} (n : ℕ) (journals : List (VoteJournal V)) : Type 0 where
  pub within : All (λ (journal : VoteJournal V). journal.replica < n) journals
  pub distinct : IsDistinct nat_eq (map (λ (journal : VoteJournal V). journal.replica) journals)

-- why journals tell no values: twice their number is not above n, or else memory was refused
abbrev pub IsRecoverError : ℕ → ℕ → RecoverError → Type 0
IsRecoverError n count (recovering.NoMajority have need) = (have ≡ count) × (need ≡ n / 2 + 1) × (2 * count ≤ n)
IsRecoverError n count recovering.OutOfMemory = n < 2 * count

-- for the slot each journal has what its replica's acceptor holds
abbrev pub HoldAcceptances : {V : Type 0} → (ℕ → AcceptorState V) → ℕ → List (VoteJournal V) → Type 0
HoldAcceptances held slot journals = All (λ journal. vote_found (slice_get journal.votes slot) ≡ (held journal.replica).accepted) journals
