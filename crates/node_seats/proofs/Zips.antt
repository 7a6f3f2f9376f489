-- What holds of the items of two lists, place by place, once one of them is written; and what holds of each item of a list.
use Rattle.std.proofs.Common.{◌≡◌, ◌≢◌, ℕ, zero, suc, ◌<◌, List, [], ◌∷◌, ◌++◌, length, get_or, set, map, Some, refl, ap, subst, arith}
use Rattle.std.specs.List.{AllByRecursion, AllZip}
use Rattle.std.specs.Prelude.{slice_get}
use Rattle.std.proofs.lemmas.Option.{none-some, same_Some}

pub zip_set : {A B : Type 0} (R : A → B → Type 0) (xs : List A) (ys : List B) (k : ℕ) (y d : B) → k < length ys
    → ((x : A) → R x (get_or ys k d) → R x y) → AllZip R xs ys → AllZip R xs (set ys k y)
zip_set R xs [] k y d within to all = absurd (omega (arith, within))
zip_set R [] (z ∷ ys) k y d within to all = absurd all
zip_set R (x ∷ xs) (z ∷ ys) zero y d within to all = (to x all.0, all.1)
zip_set R (x ∷ xs) (z ∷ ys) (suc k) y d within to all = (all.0, zip_set R xs ys k y d (omega (arith, within)) to all.1)

pub zip_at : {A B : Type 0} (R : A → B → Type 0) (xs : List A) (ys : List B) (k : ℕ) (y : B) → AllZip R xs ys → slice_get ys k ≡ Some y
    → (x : A) × (slice_get xs k ≡ Some x) × R x y
zip_at R [] [] k y all at = absurd (none-some y at)
zip_at R [] (z ∷ ys) k y all at = absurd all
zip_at R (x ∷ xs) [] k y all at = absurd all
zip_at R (x ∷ xs) (z ∷ ys) zero y all at = (x, refl, subst (R x) (same_Some z y at) all.0)
zip_at R (x ∷ xs) (z ∷ ys) (suc k) y all at = zip_at R xs ys k y all.1 at

pub zip_length : {A B : Type 0} (R : A → B → Type 0) (xs : List A) (ys : List B) → AllZip R xs ys → length xs ≡ length ys
zip_length R [] [] all = refl
zip_length R [] (y ∷ ys) all = absurd all
zip_length R (x ∷ xs) [] all = absurd all
zip_length R (x ∷ xs) (y ∷ ys) all = ap suc (zip_length R xs ys all.1)

-- ---- one list

pub all_at : {A : Type 0} (P : A → Type 0) (xs : List A) (k : ℕ) (x : A) → AllByRecursion P xs → slice_get xs k ≡ Some x → P x
all_at P [] k x all at = absurd (none-some x at)
all_at P (y ∷ xs) zero x all at = subst P (same_Some y x at) all.0
all_at P (y ∷ xs) (suc k) x all at = all_at P xs k x all.1 at

pub all_from : {A : Type 0} (P : A → Type 0) (xs : List A) → ((k : ℕ) (x : A) → slice_get xs k ≡ Some x → P x) → AllByRecursion P xs
all_from P [] each = tt
all_from P (x ∷ xs) each = (each 0 x refl, all_from P xs (λ k y at. each (suc k) y at))

pub all_both : {A : Type 0} (P : A → Type 0) (xs ys : List A) → AllByRecursion P (xs ++ ys) → AllByRecursion P xs × AllByRecursion P ys
all_both P [] ys all = (tt, all)
all_both P (x ∷ xs) ys all = let rest = all_both P xs ys all.1 in ((all.0, rest.0), rest.1)

pub all_map : {A B : Type 0} (f : A → B) (P : B → Type 0) (xs : List A) → AllByRecursion (λ (x : A). P (f x)) xs → AllByRecursion P (map f xs)
all_map f P [] all = tt
all_map f P (x ∷ xs) all = (all.0, all_map f P xs all.1)

-- ---- one item is written

pub all_set : {A : Type 0} (P : A → Type 0) (xs : List A) (k : ℕ) (y : A) → AllByRecursion P xs → P y → AllByRecursion P (set xs k y)
all_set P [] k y all one = tt
all_set P (x ∷ xs) zero y all one = (one, all.1)
all_set P (x ∷ xs) (suc k) y all one = (all.0, all_set P xs k y all.1 one)

pub all_get : {A : Type 0} (P : A → Type 0) (xs : List A) (k : ℕ) (d : A) → AllByRecursion P xs → k < length xs → P (get_or xs k d)
all_get P [] k d all within = absurd (omega (arith, within))
all_get P (x ∷ xs) zero d all within = all.0
all_get P (x ∷ xs) (suc k) d all within = all_get P xs k d all.1 (omega (arith, within))

pub map_set : {A B : Type 0} (f : A → B) (xs : List A) (k : ℕ) (d y : A) → f y ≡ f (get_or xs k d) → map f (set xs k y) ≡ map f xs
map_set f [] k d y same = refl
map_set f (x ∷ xs) zero d y same = ap (λ z. z ∷ map f xs) same
map_set f (x ∷ xs) (suc k) d y same = ap (λ l. f x ∷ l) (map_set f xs k d y same)

pub get_set_same : {A : Type 0} (xs : List A) (k : ℕ) (y : A) → k < length xs → slice_get (set xs k y) k ≡ Some y
get_set_same [] k y within = absurd (omega (arith, within))
get_set_same (x ∷ xs) zero y within = refl
get_set_same (x ∷ xs) (suc k) y within = get_set_same xs k y (omega (arith, within))

pub get_set_other : {A : Type 0} (xs : List A) (k i : ℕ) (y : A) → i ≢ k → slice_get (set xs k y) i ≡ slice_get xs i
get_set_other [] k i y other = refl
get_set_other (x ∷ xs) zero zero y other = absurd (other refl)
get_set_other (x ∷ xs) zero (suc i) y other = refl
get_set_other (x ∷ xs) (suc k) zero y other = refl
get_set_other (x ∷ xs) (suc k) (suc i) y other = get_set_other xs k i y (λ same. other (ap suc same))
