-- Items that stand at rising positions, and their parts below a position and from it on.
use Rattle.std.specs.Prelude.{ℕ, ◌<◌, nat_lt, nat_le, List, [], ◌∷◌, filter}
use Rattle.std.specs.List.{AllByRecursion}

-- of items that stand at positions, those below one
abbrev pub below : {T : Type 0} → (T → ℕ) → ℕ → List T → List T
below position p items = filter (λ x. nat_lt (position x) p) items

-- and those from it on
abbrev pub from_on : {T : Type 0} → (T → ℕ) → ℕ → List T → List T
from_on position p items = filter (λ x. nat_le p (position x)) items

-- each position is below the ones that follow it
abbrev pub IsRising : {T : Type 0} → (T → ℕ) → List T → Type 0
IsRising position [] = Unit {0}
IsRising position (x ∷ items) = AllByRecursion (λ y. position x < position y) items × IsRising position items

-- every item stands below this position
abbrev pub IsPast : {T : Type 0} → (T → ℕ) → List T → ℕ → Type 0
IsPast position items p = AllByRecursion (λ x. position x < p) items
