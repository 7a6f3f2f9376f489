-- Lists that a loop puts together, and what holds of each item of a list.
use Rattle.std.proofs.Common.{◌≡◌, ℕ, suc, ◌+◌, List, [], ◌∷◌, ◌++◌, map, Some, refl, sym, ap, ◌∙◌, append_assoc, arith}
use Rattle.std.specs.List.{AllByRecursion, range_with_len, flat_map, slice_get}
use Rattle.std.proofs.lemmas.List.{append-nil}
use Rattle.std.proofs.lemmas.List.FromFn.{map-range_with_len_more}
use Rattle.std.proofs.lemmas.List.Concat.{flat_map-append}
use Rattle.fix_ante.proofs.LocalLemmas.{range_with_len_append}

-- what holds at each place holds of each
pub all_from : {X : Type 0} → (P : X → Type 0) (xs : List X) → ((i : ℕ) (x : X) → slice_get xs i ≡ Some x → P x) → AllByRecursion P xs
all_from P [] each = tt
all_from P (x ∷ xs) each = (each 0 x refl, all_from P xs (λ i y e. each (suc i) y e))

-- a loop that puts something at the end for each number
pub one_more : {X : Type 0} → (f : ℕ → X) (base now later : List X) (n : ℕ) → now ≡ base ++ map f (range_with_len 0 n) → later ≡ now ++ f n ∷ []
    → later ≡ base ++ map f (range_with_len 0 (n + 1))
one_more {X} f base now later n so_far e =
    e ∙ ap (λ (xs : List X). xs ++ f n ∷ []) so_far ∙ append_assoc base (map f (range_with_len 0 n)) (f n ∷ [])
    ∙ ap (λ (xs : List X). base ++ xs) (sym (map-range_with_len_more f 0 n n (omega arith)))

pub several_more : {X : Type 0} → (f : ℕ → List X) (base now later : List X) (n : ℕ) → now ≡ base ++ flat_map f (range_with_len 0 n) → later ≡ now ++ f n
    → later ≡ base ++ flat_map f (range_with_len 0 (n + 1))
several_more {X} f base now later n so_far e =
    let at : 0 + n ≡ n = omega arith in
    e ∙ ap (λ (xs : List X). xs ++ f n) so_far ∙ append_assoc base (flat_map f (range_with_len 0 n)) (f n)
    ∙ ap (λ (xs : List X). base ++ xs)
    (sym
    (ap (flat_map f) (sym (range_with_len_append 0 n 1) ∙ ap (λ (k : ℕ). range_with_len 0 n ++ k ∷ []) at)
    ∙ flat_map-append f (range_with_len 0 n) (n ∷ [])
    ∙ ap (λ (xs : List X). flat_map f (range_with_len 0 n) ++ xs) (append-nil (f n))))
