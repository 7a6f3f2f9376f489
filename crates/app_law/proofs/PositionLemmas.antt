-- Items at rising positions, parted at a position: what one item more or less at an end does to both parts.
use Rattle.std.proofs.Common.{◌≡◌, ℕ, ◌<◌, ◌≤◌, nat_lt, nat_le, Bool, true, false, cond, List, [], ◌∷◌, ◌++◌, length, refl, ap, ◌∙◌, inl, inr, arith}
use Rattle.std.specs.List.{AllByRecursion}
use Rattle.std.proofs.lemmas.Bool.{cases_lt}
use Rattle.std.proofs.lemmas.Bool.Decides.{nat_tests}
use Rattle.app_law.specs.Positions.{below, from_on, IsRising, IsPast}

lt_test : (m n : ℕ) → m < n → (nat_lt m n ≡ true) × (nat_le n m ≡ false)
lt_test m n h = grind (arith, nat_tests)

le_test : (m n : ℕ) → n ≤ m → (nat_lt m n ≡ false) × (nat_le n m ≡ true)
le_test m n h = grind (arith, nat_tests)

module _ {T : Type 0} (position : T → ℕ) where
  -- an item at or past a position is the last of those from it on
  pub below_push : (p : ℕ) (items : List T) (x : T) → p ≤ position x → below position p (items ++ x ∷ []) ≡ below position p items
  below_push p [] x h = rw ((le_test (position x) p h).0) refl
  below_push p (y ∷ items) x h = ap (λ rest. cond (nat_lt (position y) p) (y ∷ rest) rest) (below_push p items x h)

  pulled : (b : Bool) (y : T) (xs ys : List T) → cond b (y ∷ (xs ++ ys)) (xs ++ ys) ≡ cond b (y ∷ xs) xs ++ ys
  pulled true y xs ys = refl
  pulled false y xs ys = refl

  pub from_on_push : (p : ℕ) (items : List T) (x : T) → p ≤ position x → from_on position p (items ++ x ∷ []) ≡ from_on position p items ++ x ∷ []
  from_on_push p [] x h = rw ((le_test (position x) p h).1) refl
  from_on_push p (y ∷ items) x h =
      ap (λ rest. cond (nat_le p (position y)) (y ∷ rest) rest) (from_on_push p items x h) ∙ pulled (nat_le p (position y)) y (from_on position p items) (x ∷ [])

  -- where all items stand below a position
  pub below_past : (p : ℕ) (items : List T) → IsPast position items p → below position p items ≡ items
  below_past p [] h = refl
  below_past p (x ∷ items) h = rw ((lt_test (position x) p h.0).0) (ap (λ rest. x ∷ rest) (below_past p items h.1))

  pub from_on_past : (p : ℕ) (items : List T) → IsPast position items p → from_on position p items ≡ []
  from_on_past p [] h = refl
  from_on_past p (x ∷ items) h = rw ((lt_test (position x) p h.0).1) (from_on_past p items h.1)

  -- where all items stand past one that is at a position or past it
  pub all_above : (p q : ℕ) (items : List T) → p ≤ q → AllByRecursion (λ y. q < position y) items
      → (below position p items ≡ []) × (from_on position p items ≡ items)
  all_above p q [] h past = (refl, refl)
  all_above p q (x ∷ items) h past =
      let here : p ≤ position x = omega (arith, past.0) in
      let rest = all_above p q items h past.1 in
      (rw ((le_test (position x) p here).0) rest.0, rw ((le_test (position x) p here).1) (ap (λ r. x ∷ r) rest.1))

  -- the first of rising items stands at a position or past it, and then all do
  pub below_above : (p : ℕ) (x : T) (items : List T) → IsRising position (x ∷ items) → p ≤ position x → below position p (x ∷ items) ≡ []
  below_above p x items rising h = rw ((le_test (position x) p h).0) ((all_above p (position x) items h rising.0).0)

  pub from_on_above : (p : ℕ) (x : T) (items : List T) → IsRising position (x ∷ items) → p ≤ position x → from_on position p (x ∷ items) ≡ x ∷ items
  from_on_above p x items rising h = rw ((le_test (position x) p h).1) (ap (λ r. x ∷ r) ((all_above p (position x) items h rising.0).1))

  -- the first item, where it stands below a position
  pub below_first : (p : ℕ) (x : T) (items : List T) → position x < p → below position p (x ∷ items) ≡ x ∷ below position p items
  below_first p x items h = rw ((lt_test (position x) p h).0) refl

  pub from_on_first : (p : ℕ) (x : T) (items : List T) → position x < p → from_on position p (x ∷ items) ≡ from_on position p items
  from_on_first p x items h = rw ((lt_test (position x) p h).1) refl

  -- where no item stands below a position, all stand from it on
  pub from_on_all : (p : ℕ) (items : List T) → length (below position p items) ≡ 0 → from_on position p items ≡ items
  from_on_all p [] none = refl
  from_on_all p (x ∷ items) none =
      elim (cases_lt (position x) p) [
        | inl under ↦ absurd (let first = ap length (below_first p x items under) in omega arith)
        | inr over ↦
            let test = le_test (position x) p over in
            rw test.1 (ap (λ rest. x ∷ rest) (from_on_all p items (rw test.0 at none)))
      ]

  all_front : (Q : T → Type 0) (xs : List T) (x : T) → AllByRecursion Q (xs ++ x ∷ []) → AllByRecursion Q xs × Q x
  all_front Q [] x h = (tt, h.0)
  all_front Q (y ∷ xs) x h = let rest : AllByRecursion Q xs × Q x = all_front Q xs x h.1 in ((h.0, rest.0), rest.1)

  -- rising items without the last, all below it
  pub IsRising_front : (xs : List T) (x : T) → IsRising position (xs ++ x ∷ []) → IsRising position xs × IsPast position xs (position x)
  IsRising_front [] x h = (tt, tt)
  IsRising_front (y ∷ xs) x h =
      let front : AllByRecursion (λ z. position y < position z) xs × (position y < position x) = all_front (λ z. position y < position z) xs x h.0 in
      let rest : IsRising position xs × IsPast position xs (position x) = IsRising_front xs x h.1 in
      ((front.0, rest.0), (front.1, rest.1))

  all_push : (Q : T → Type 0) (xs : List T) (x : T) → AllByRecursion Q xs → Q x → AllByRecursion Q (xs ++ x ∷ [])
  all_push Q [] x h last = (last, tt)
  all_push Q (y ∷ xs) x h last = (h.0, all_push Q xs x h.1 last)

  -- rising items and one past them all
  pub IsRising_push : (xs : List T) (x : T) → IsRising position xs → IsPast position xs (position x) → IsRising position (xs ++ x ∷ [])
  IsRising_push [] x h past = (tt, tt)
  IsRising_push (y ∷ xs) x h past = (all_push (λ z. position y < position z) xs x h.0 past.0, IsRising_push xs x h.1 past.1)

  -- items below one that stands below a position
  IsPast_further : (xs : List T) (q p : ℕ) → q ≤ p → IsPast position xs q → IsPast position xs p
  IsPast_further [] q p h past = tt
  IsPast_further (x ∷ xs) q p h past = (omega (arith, past.0), IsPast_further xs q p h past.1)

  -- rising items whose last stands below a position
  pub IsPast_last : (p : ℕ) (xs : List T) (x : T) → IsRising position (xs ++ x ∷ []) → position x < p → IsPast position (xs ++ x ∷ []) p
  IsPast_last p xs x rising h =
      let front = IsRising_front xs x rising in
      all_push (λ y. position y < p) xs x (IsPast_further xs (position x) p (omega arith) front.1) h
