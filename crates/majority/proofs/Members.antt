-- A list of distinct replicas with one more among them.
use Rattle.std.proofs.Common.{◌≡◌, ℕ, ◌<◌, Bool, true, false, List, [], ◌∷◌, ◌++◌, length, nat_eq, refl, All, Contains, inl, ◌⊎◌, inr, arith, length-append}
use Rattle.std.specs.List.{IsDistinct, list_any}
use Rattle.std.proofs.lemmas.Bool.Decides.{nat_tests}
use Rattle.std.proofs.lemmas.List.Elements.{All-push, Contains-push_cases, Contains-append_left, Contains-append_right}
use Rattle.majority.specs.Ballots.{with_replica}
use Rattle.majority.proofs.Lists.{Apart, AreApart, Apart_from_test, Contains_here, Contains_or_apart, IsDistinct_append, IsDistinct_cons, IsDistinct_nil, length_IsDistinct}

AreApart_one : (x : ℕ) (ys : List ℕ) → Apart x ys → AreApart ys (x ∷ [])
AreApart_one x [] a = tt
AreApart_one x (y ∷ ys) a =
    let other : nat_eq y x ≡ false = let given : nat_eq x y ≡ false = a.0 in grind (arith, nat_tests) in
    ((other, tt), AreApart_one x ys a.1)

-- a number that is not among distinct ones can be put at their end
pub IsDistinct_push : (x : ℕ) (xs : List ℕ) → IsDistinct nat_eq xs → list_any (nat_eq x) xs ≡ false → IsDistinct nat_eq (xs ++ x ∷ [])
IsDistinct_push x xs d h =
    IsDistinct_append xs (x ∷ []) d (IsDistinct_cons x [] tt IsDistinct_nil) (AreApart_one x xs (Apart_from_test x xs h))

-- and there is room for it below a bound
pub length_push_below : (n x : ℕ) (xs : List ℕ) → All (λ y. y < n) xs → x < n → IsDistinct nat_eq xs → list_any (nat_eq x) xs ≡ false → length xs < n
length_push_below n x xs b l d h =
    let most = length_IsDistinct n (xs ++ x ∷ []) (All-push (λ y. y < n) xs x b l) (IsDistinct_push x xs d h) in
    let more = length-append xs (x ∷ []) in
    omega (arith, most, more)

pub IsDistinct_with_replica : (x : ℕ) (xs : List ℕ) → IsDistinct nat_eq xs → IsDistinct nat_eq (with_replica x xs)
IsDistinct_with_replica x xs d = by_test (list_any (nat_eq x) xs) refl
  where
    by_test : (b : Bool) → list_any (nat_eq x) xs ≡ b → IsDistinct nat_eq (with_replica x xs)
    by_test true e = rw e d
    by_test false e = rw e (IsDistinct_push x xs d e)

pub All_with_replica : (P : ℕ → Type 0) (x : ℕ) (xs : List ℕ) → All P xs → P x → All P (with_replica x xs)
All_with_replica P x xs a p = by_test (list_any (nat_eq x) xs) refl
  where
    by_test : (b : Bool) → list_any (nat_eq x) xs ≡ b → All P (with_replica x xs)
    by_test true e = rw e a
    by_test false e = rw e (All-push P xs x a p)

Apart_test : (x : ℕ) (ys : List ℕ) → Apart x ys → list_any (nat_eq x) ys ≡ false
Apart_test x [] a = refl
Apart_test x (y ∷ ys) a = rw (a.0, Apart_test x ys a.1) refl

pub with_replica_has : (x : ℕ) (xs : List ℕ) → Contains (with_replica x xs) x
with_replica_has x xs = by_test (list_any (nat_eq x) xs) refl
  where
    by_test : (b : Bool) → list_any (nat_eq x) xs ≡ b → Contains (with_replica x xs) x
    by_test true e = rw e (elim (Contains_or_apart x xs) [ inl found ↦ found | inr apart ↦ absurd (let none = Apart_test x xs apart in cc) ])
    by_test false e = rw e (Contains-append_right xs (x ∷ []) x (Contains_here x []))

pub with_replica_keeps : (x y : ℕ) (xs : List ℕ) → Contains xs y → Contains (with_replica x xs) y
with_replica_keeps x y xs c = by_test (list_any (nat_eq x) xs) refl
  where
    by_test : (b : Bool) → list_any (nat_eq x) xs ≡ b → Contains (with_replica x xs) y
    by_test true e = rw e c
    by_test false e = rw e (Contains-append_left xs (x ∷ []) y c)

pub Contains_with_replica : (x y : ℕ) (xs : List ℕ) → Contains (with_replica x xs) y → Contains xs y ⊎ (x ≡ y)
Contains_with_replica x y xs = by_test (list_any (nat_eq x) xs) refl
  where
    by_test : (b : Bool) → list_any (nat_eq x) xs ≡ b → Contains (with_replica x xs) y → Contains xs y ⊎ (x ≡ y)
    by_test true e c = inl (rw e at c)
    by_test false e c = Contains-push_cases xs x y (rw e at c)
