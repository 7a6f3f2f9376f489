-- Membership in a list, and lists of distinct numbers: how many can stand below a bound.
use Rattle.std.proofs.Common.{◌≡◌, ℕ, zero, suc, ◌<◌, ◌≤◌, false, List, [], ◌∷◌, ◌++◌, length, get_or, nat_eq, refl, sym, ap, subst, inl, inr, ◌⊎◌, All, Contains, arith, if◌then◌else◌}
use Rattle.std.specs.List.{AllByRecursion, IsDistinct, list_any}
use Rattle.std.proofs.lemmas.Bool.Decides.{nat_tests, eqb_tells}
use Rattle.std.proofs.lemmas.List.Elements.{recursion_from_All}

module _ {X : Type 0} where
  pub Contains_here : (x : X) (rest : List X) → Contains (x ∷ rest) x
  Contains_here x rest = (0, omega arith, refl)

  pub Contains_later : (head x : X) (rest : List X) → Contains rest x → Contains (head ∷ rest) x
  Contains_later head x rest p = (suc p.0, omega (arith, p.1), p.2)

  by_index : (head x : X) (rest : List X) (k : ℕ) → k < suc (length rest) → get_or (head ∷ rest) k x ≡ x → (head ≡ x) ⊎ Contains rest x
  by_index head x rest zero within found = inl found
  by_index head x rest (suc k) within found = inr (k, omega arith, found)

  pub Contains_cases : (head x : X) (rest : List X) → Contains (head ∷ rest) x → (head ≡ x) ⊎ Contains rest x
  Contains_cases head x rest p = by_index head x rest p.0 p.1 p.2

  pub Contains_none : (x : X) → Contains [] x → ⊥
  Contains_none x p = omega (arith, p.1)

-- the number is none of these
abbrev pub Apart : ℕ → List ℕ → Type 0
Apart x ys = AllByRecursion (λ y. nat_eq x y ≡ false) ys

pub IsDistinct_head : (x : ℕ) (xs : List ℕ) → IsDistinct nat_eq (x ∷ xs) → Apart x xs
unfolding IsDistinct
IsDistinct_head x xs d = d.0

pub IsDistinct_tail : (x : ℕ) (xs : List ℕ) → IsDistinct nat_eq (x ∷ xs) → IsDistinct nat_eq xs
unfolding IsDistinct
IsDistinct_tail x xs d = d.1

pub IsDistinct_nil : IsDistinct nat_eq []
unfolding IsDistinct
IsDistinct_nil = tt

pub IsDistinct_cons : (x : ℕ) (xs : List ℕ) → Apart x xs → IsDistinct nat_eq xs → IsDistinct nat_eq (x ∷ xs)
unfolding IsDistinct
IsDistinct_cons x xs a d = (a, d)

-- a number is among these, or is none of them
pub Contains_or_apart : (x : ℕ) (ys : List ℕ) → Contains ys x ⊎ Apart x ys
Contains_or_apart x [] = inr tt
Contains_or_apart x (y ∷ ys) =
    elim (eqb_tells x y) [
      | inl same ↦ inl (subst (λ z. Contains (z ∷ ys) x) same.1 (Contains_here x ys))
      | inr other ↦ elim (Contains_or_apart x ys) [
        | inl found ↦ inl (Contains_later y x ys found)
        | inr apart ↦ inr (other.0, apart)
      ]
    ]

-- the test for it
pub Apart_from_test : (x : ℕ) (ys : List ℕ) → list_any (nat_eq x) ys ≡ false → Apart x ys
Apart_from_test x [] h = tt
Apart_from_test x (y ∷ ys) h =
    let parts : (nat_eq x y ≡ false) × (list_any (nat_eq x) ys ≡ false) = grind arith in
    (parts.0, Apart_from_test x ys parts.1)

Apart_append : (x : ℕ) (xs ys : List ℕ) → Apart x xs → Apart x ys → Apart x (xs ++ ys)
Apart_append x [] ys a b = b
Apart_append x (z ∷ xs) ys a b = (a.0, Apart_append x xs ys a.1 b)

-- no number is in both
abbrev pub AreApart : List ℕ → List ℕ → Type 0
AreApart xs ys = AllByRecursion (λ x. Apart x ys) xs

pub IsDistinct_append : (xs ys : List ℕ) → IsDistinct nat_eq xs → IsDistinct nat_eq ys → AreApart xs ys → IsDistinct nat_eq (xs ++ ys)
IsDistinct_append [] ys d e a = e
IsDistinct_append (x ∷ xs) ys d e a =
    IsDistinct_cons x (xs ++ ys) (Apart_append x xs ys (IsDistinct_head x xs d) a.0) (IsDistinct_append xs ys (IsDistinct_tail x xs d) e a.1)

-- two lists have a common number, or none
pub common_or_apart : (xs ys : List ℕ) → ((x : ℕ) × Contains xs x × Contains ys x) ⊎ AreApart xs ys
common_or_apart [] ys = inr tt
common_or_apart (x ∷ xs) ys =
    elim (Contains_or_apart x ys) [
      | inl found ↦ inl (x, Contains_here x xs, found)
      | inr apart ↦ elim (common_or_apart xs ys) [
        | inl common ↦ inl (common.0, Contains_later x common.0 xs common.1, common.2)
        | inr rest ↦ inr (apart, rest)
      ]
    ]

-- the list without a number
without : ℕ → List ℕ → List ℕ
without n [] = []
without n (x ∷ xs) = if nat_eq n x then without n xs else x ∷ without n xs

without_apart : (n : ℕ) (xs : List ℕ) → Apart n xs → without n xs ≡ xs
unfolding without
without_apart n [] a = refl
without_apart n (x ∷ xs) a =
    let rest = without_apart n xs a.1 in
    rw a.0 (ap (λ ys. x ∷ ys) rest)

Apart_sym : (x y : ℕ) → nat_eq x y ≡ false → nat_eq y x ≡ false
Apart_sym x y h = grind (arith, nat_tests)

length_without : (n : ℕ) (xs : List ℕ) → IsDistinct nat_eq xs → length xs ≤ suc (length (without n xs))
unfolding without
length_without n [] d = omega arith
length_without n (x ∷ xs) d =
    let rest : length xs ≤ suc (length (without n xs)) = length_without n xs (IsDistinct_tail x xs d) in
    elim (eqb_tells n x) [
      | inl same ↦
          let apart : Apart n xs = subst (λ z. Apart z xs) (sym same.1) (IsDistinct_head x xs d) in
          rw (same.0, without_apart n xs apart) (omega arith)
      | inr other ↦ rw other.0 (omega arith)
    ]

Apart_without : (n x : ℕ) (xs : List ℕ) → Apart x xs → Apart x (without n xs)
unfolding without
Apart_without n x [] a = tt
Apart_without n x (y ∷ xs) a =
    elim (eqb_tells n y) [
      | inl same ↦ rw same.0 (Apart_without n x xs a.1)
      | inr other ↦ rw other.0 (a.0, Apart_without n x xs a.1)
    ]

IsDistinct_without : (n : ℕ) (xs : List ℕ) → IsDistinct nat_eq xs → IsDistinct nat_eq (without n xs)
unfolding without
IsDistinct_without n [] d = d
IsDistinct_without n (x ∷ xs) d =
    let rest = IsDistinct_without n xs (IsDistinct_tail x xs d) in
    elim (eqb_tells n x) [
      | inl same ↦ rw same.0 rest
      | inr other ↦ rw other.0 (IsDistinct_cons x (without n xs) (Apart_without n x xs (IsDistinct_head x xs d)) rest)
    ]

abbrev AreBelow : ℕ → List ℕ → Type 0
AreBelow n xs = AllByRecursion (λ x. x < n) xs

AreBelow_without : (n : ℕ) (xs : List ℕ) → AreBelow (suc n) xs → AreBelow n (without n xs)
unfolding without
AreBelow_without n [] b = tt
AreBelow_without n (x ∷ xs) b =
    let rest = AreBelow_without n xs b.1 in
    elim (eqb_tells n x) [
      | inl same ↦ rw same.0 rest
      | inr other ↦
          let apart = other.1 in
          let below : x < suc n = b.0 in
          rw other.0 (omega arith, rest)
    ]

length_below : (n : ℕ) (xs : List ℕ) → AreBelow n xs → IsDistinct nat_eq xs → length xs ≤ n
length_below zero [] b d = omega arith
length_below zero (x ∷ xs) b d = let none : x < zero = b.0 in omega arith
length_below (suc n) xs b d =
    let fewer : length (without n xs) ≤ n = length_below n (without n xs) (AreBelow_without n xs b) (IsDistinct_without n xs d) in
    let one = length_without n xs d in
    omega arith

-- distinct numbers below a bound are at most as many
pub length_IsDistinct : (n : ℕ) (xs : List ℕ) → All (λ x. x < n) xs → IsDistinct nat_eq xs → length xs ≤ n
length_IsDistinct n xs b d = length_below n xs (recursion_from_All (λ x. x < n) xs b) d
