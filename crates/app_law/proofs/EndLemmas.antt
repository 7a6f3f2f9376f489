-- What goes from an end of a list of items that stand at rising positions, by the test of its position.
use Rattle.std.proofs.Common.{◌≡◌, ℕ, ◌<◌, ◌≤◌, nat_lt, nat_le, Bool, true, false, if◌then◌else◌, List, [], ◌∷◌, ◌++◌, Option, Some, None, refl, sym, ◌∙◌, arith}
use Rattle.std.specs.Bool.{then_some}
use Rattle.std.proofs.lemmas.Bool.Decides.{nat_tests}
use Rattle.app_law.specs.Positions.{below, from_on, IsRising, IsPast}
use Rattle.app_law.proofs.PositionLemmas.{below_above, from_on_above, IsRising_front, IsPast_last}

le_from : (m n : ℕ) → nat_le m n ≡ true → m ≤ n
le_from m n e = grind (arith, nat_tests)

lt_from_not : (m n : ℕ) → nat_le m n ≡ false → n < m
lt_from_not m n e = grind (arith, nat_tests)

lt_from : (m n : ℕ) → nat_lt m n ≡ true → m < n
lt_from m n e = grind (arith, nat_tests)

le_from_not : (m n : ℕ) → nat_lt m n ≡ false → n ≤ m
le_from_not m n e = grind (arith, nat_tests)

module _ {T : Type 0} (position : T → ℕ) where
  -- the newest item went, which stands at a position or past it; or all stand below it
  abbrev pub Newest : ℕ → List T → List T → Option T → Type 0
  Newest p old new None = (new ≡ old) × IsPast position old p
  Newest p old new (Some z) = (p ≤ position z) × (old ≡ new ++ z ∷ []) × IsRising position new

  -- the oldest item went, which stands below a position; or none stands below it
  abbrev pub Oldest : ℕ → List T → List T → Option T → Type 0
  Oldest p old new None = (new ≡ old) × (below position p old ≡ []) × (from_on position p old ≡ old)
  Oldest p old new (Some z) = (position z < p) × (old ≡ z ∷ new) × IsRising position new

  pub newest_empty : (p : ℕ) (old new : List T) (r : Option T) → old ≡ [] → new ≡ [] → r ≡ None → Newest p old new r
  newest_empty p old new r old_is new_is r_is = rw (r_is, new_is, old_is) (refl, tt)

  pub newest_last : (p : ℕ) (old new xs : List T) (x y : T) (b : Bool) (r : Option T) → IsRising position old → old ≡ xs ++ x ∷ [] → b ≡ nat_le p (position x)
      → y ≡ x → r ≡ then_some b y → new ≡ (if b then xs else xs ++ y ∷ []) → Newest p old new r
  newest_last p old new xs x y b r rising old_is test same r_is new_is =
      let front : IsRising position (xs ++ x ∷ []) = rw old_is at rising in
      elim b as (λ b. b ≡ nat_le p (position x) → r ≡ then_some b y → new ≡ (if b then xs else xs ++ y ∷ []) → Newest p old new r) [
        | true ↦ λ test r_is new_is. rw (r_is, new_is, old_is, same) (le_from p (position x) (sym test), refl, (IsRising_front position xs x front).0)
        | false ↦ λ test r_is new_is. rw (r_is, new_is, old_is, same) (refl, IsPast_last position p xs x front (lt_from_not p (position x) (sym test)))
      ] test r_is new_is

  pub oldest_empty : (p : ℕ) (old new : List T) (r : Option T) → old ≡ [] → new ≡ [] → r ≡ None → Oldest p old new r
  oldest_empty p old new r old_is new_is r_is = rw (r_is, new_is, old_is) (refl, refl, refl)

  pub oldest_first : (p : ℕ) (old new xs : List T) (x y : T) (b : Bool) (r : Option T) → IsRising position old → old ≡ x ∷ xs → b ≡ nat_lt (position x) p
      → y ≡ x → r ≡ then_some b y → new ≡ (if b then xs else y ∷ xs) → Oldest p old new r
  oldest_first p old new xs x y b r rising old_is test same r_is new_is =
      let all : IsRising position (x ∷ xs) = rw old_is at rising in
      elim b as (λ b. b ≡ nat_lt (position x) p → r ≡ then_some b y → new ≡ (if b then xs else y ∷ xs) → Oldest p old new r) [
        | true ↦ λ test r_is new_is. rw (r_is, new_is, old_is, same) (lt_from (position x) p (sym test), refl, all.1)
        | false ↦ λ test r_is new_is.
            let above : p ≤ position x = le_from_not (position x) p (sym test) in
            rw (r_is, new_is, old_is, same) (refl, below_above position p x xs all above, from_on_above position p x xs all above)
      ] test r_is new_is
