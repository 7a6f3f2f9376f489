-- The ballots of one slot, who owns them, and what a majority is.
use Rattle.std.specs.Prelude.{◌≡◌, ℕ, ◌+◌, ◌*◌, ◌/◌, ◌%◌, ◌<◌, ◌≤◌, Bool, nat_lt, nat_eq, if◌then◌else◌, List, ◌∷◌, [], ◌++◌, length, All, Option, Some, None}
use Rattle.std.specs.List.{IsDistinct, list_any}

-- The replicas of one slot are numbered from 0 to n - 1, and each ballot has one owner: its remainder by n.

-- the least ballot above the floor that the replica owns
abbrev pub next_ballot : ℕ → ℕ → ℕ → ℕ
next_ballot replica n floor =
    if nat_lt floor (floor / n * n + replica) then floor / n * n + replica else floor / n * n + replica + n

-- the first ballot above the floor that the replica owns, in a caller's words
pub record IsNextBallot (replica n floor ballot : ℕ) : Type 0 where
  pub above : floor < ballot
  pub owned : ballot % n ≡ replica
  pub least : (other : ℕ) → floor < other → other % n ≡ replica → ballot ≤ other

-- the promise, where it is above the ballot
abbrev pub greater_promise : Option ℕ → ℕ → Option ℕ
greater_promise None ballot = None
greater_promise (Some promise) ballot = if nat_lt ballot promise then Some promise else None

-- the replicas, with this one among them
abbrev pub with_replica : ℕ → List ℕ → List ℕ
with_replica replica replicas = if list_any (nat_eq replica) replicas then replicas else replicas ++ replica ∷ []

-- more than half of n
abbrev pub is_majority : ℕ → List ℕ → Bool
is_majority n replicas = nat_lt n (2 * length replicas)

-- distinct replicas, more than half of all
pub record IsMajority (n : ℕ) (replicas : List ℕ) : Type 0 where
  pub within : All (λ replica. replica < n) replicas
  pub distinct : IsDistinct nat_eq replicas
  pub most : n < 2 * length replicas
