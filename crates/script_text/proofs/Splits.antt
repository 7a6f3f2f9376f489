-- Cutting a list at the elements that pass a test.
use Rattle.std.proofs.Common.{◌≡◌, ℕ, ◌+◌, ◌-◌, ◌<◌, ◌≤◌, Bool, true, false, cond, not, List, [], ◌∷◌, length, take, drop, Some, None, refl, ap, subst, arith}
use Rattle.std.specs.List.{position, position_or_len, slice_split, onto_first}
use Rattle.std.proofs.lemmas.List.Splits.{slice_split_first}
use Rattle.std.proofs.lemmas.Grind.{common_steps}
use Rattle.std.proofs.lemmas.Bool.Decides.{nat_tests}

module _ (p : ℕ → Bool) where
  onto_first_some : (x : ℕ) (parts : List (List ℕ)) → (y : List ℕ) × (ys : List (List ℕ)) × (onto_first x parts ≡ y ∷ ys)
  onto_first_some x [] = (x ∷ [], [], refl)
  onto_first_some x (y ∷ ys) = (x ∷ y, ys, refl)

  -- there is at least one part
  pub split_some : (xs : List ℕ) → (y : List ℕ) × (ys : List (List ℕ)) × (slice_split p xs ≡ y ∷ ys)
  split_some [] = ([], [], refl)
  split_some (x ∷ xs) =
      elim (p x) as (λ b. (y : List ℕ) × (ys : List (List ℕ)) × (cond b ([] ∷ slice_split p xs) (onto_first x (slice_split p xs)) ≡ y ∷ ys)) [
        | true ↦ ([], slice_split p xs, refl)
        | false ↦ onto_first_some x (slice_split p xs)
      ]

  split_whole : (xs : List ℕ) → length xs ≤ position_or_len p xs → slice_split p xs ≡ xs ∷ []
  split_whole [] h = refl
  split_whole (x ∷ xs) h =
      elim (p x) as (λ b. length (x ∷ xs) ≤ cond (not b) (1 + position_or_len p xs) 0 → cond b ([] ∷ slice_split p xs) (onto_first x (slice_split p xs)) ≡ (x ∷ xs) ∷ []) [
        | true ↦ λ h. absurd (omega arith)
        | false ↦ λ h. ap (onto_first x) (split_whole xs (omega arith))
      ] h

  -- where none passes, there is one part
  pub split_none : (xs : List ℕ) → position p xs ≡ None → slice_split p xs ≡ xs ∷ []
  split_none xs e = split_whole xs (grind (arith, nat_tests))

  -- the first part ends at the first one that passes
  pub split_at : (xs : List ℕ) (at : ℕ) → position p xs ≡ Some at → slice_split p xs ≡ take at xs ∷ slice_split p (drop (at + 1) xs)
  split_at xs at e =
      let here : (position_or_len p xs ≡ at) × (position_or_len p xs < length xs) = grind (arith, nat_tests) in
      let P : ℕ → Type 0 = λ n. slice_split p xs ≡ take n xs ∷ slice_split p (drop (n + 1) xs) in
      subst P here.0 (slice_split_first p xs 0 here.1)

-- a rest of a list, as a slice to its end gives it
pub to_end : (xs : List ℕ) (n : ℕ) → take (length xs - n) (drop n xs) ≡ drop n xs
to_end xs n = grind (arith, common_steps)
