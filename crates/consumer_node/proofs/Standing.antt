-- Items that stand at one position after another.
use Rattle.std.proofs.Common.{◌≡◌, inl, inr, ℕ, zero, suc, ◌+◌, ◌-◌, ◌<◌, ◌≤◌, List, [], ◌∷◌, ◌++◌, length, take, refl, ap, ◌∙◌, arith}
use Rattle.std.proofs.lemmas.Bool.{cases_lt, le-ltb, le-leb}
use Rattle.consumer_node.specs.inside.Names.{below, from_on, IsPast, StandFrom}
use Rattle.app_law.proofs.PositionLemmas.{below_first, from_on_first}

module _ {T : Type 0} (position : T → ℕ) where
  -- one more, after the others
  pub stand_push : (at : ℕ) (xs : List T) (x : T) → StandFrom position at xs → position x ≡ at + length xs → StandFrom position at (xs ++ x ∷ [])
  stand_push at [] x h here = (here ∙ omega arith, tt)
  stand_push at (y ∷ xs) x h here = (h.0, stand_push (at + 1) xs x h.1 (here ∙ omega arith))

  -- all stand below the position after them
  pub stand_past : (at past : ℕ) (xs : List T) → StandFrom position at xs → at + length xs ≤ past → IsPast position xs past
  stand_past at past [] h far = tt
  stand_past at past (y ∷ xs) h far = (omega (arith, h.0), stand_past (at + 1) past xs h.1 (omega arith))

  -- the first of them
  pub stand_take : (at n : ℕ) (xs : List T) → StandFrom position at xs → StandFrom position at (take n xs)
  stand_take at zero [] h = tt
  stand_take at zero (x ∷ xs) h = tt
  stand_take at (suc n) [] h = tt
  stand_take at (suc n) (x ∷ xs) h = (h.0, stand_take (at + 1) n xs h.1)

  -- none stands below the first
  pub below_none : (at p : ℕ) (xs : List T) → StandFrom position at xs → p ≤ at → below position p xs ≡ []
  below_none at p [] h far = refl
  below_none at p (x ∷ xs) h far =
      let here : p ≤ position x = omega (arith, h.0) in
      rw (le-ltb (position x) p here) (below_none (at + 1) p xs h.1 (omega arith))

  pub from_on_all : (at p : ℕ) (xs : List T) → StandFrom position at xs → p ≤ at → from_on position p xs ≡ xs
  from_on_all at p [] h far = refl
  from_on_all at p (x ∷ xs) h far =
      let here : p ≤ position x = omega (arith, h.0) in
      rw (le-leb p (position x) here) (ap (λ rest. x ∷ rest) (from_on_all (at + 1) p xs h.1 (omega arith)))

  -- those below a position are the first ones
  pub below_take : (at p : ℕ) (xs : List T) → StandFrom position at xs → below position p xs ≡ take (p - at) xs
  below_take at p [] h = elim (p - at) as (λ (n : ℕ). below position p [] ≡ take n []) [
    | zero ↦ refl
    | suc n ↦ refl
  ]
  below_take at p (x ∷ xs) h = elim (cases_lt at p) [
    | inl low ↦
        let here : position x < p = omega (arith, h.0) in
        let more : p - at ≡ suc (p - (at + 1)) = omega arith in
        below_first position p x xs here ∙ rw more (ap (λ rest. x ∷ rest) (below_take (at + 1) p xs h.1))
    | inr high ↦
        let none : p - at ≡ 0 = omega arith in
        below_none at p (x ∷ xs) h high ∙ rw none refl
  ]

  -- the first one alone stands below the next position
  pub below_next : (at : ℕ) (x : T) (xs : List T) → StandFrom position at (x ∷ xs) → below position (at + 1) (x ∷ xs) ≡ x ∷ []
  below_next at x xs h =
      below_first position (at + 1) x xs (omega (arith, h.0)) ∙ ap (λ rest. x ∷ rest) (below_none (at + 1) (at + 1) xs h.1 (omega arith))

  pub from_on_next : (at : ℕ) (x : T) (xs : List T) → StandFrom position at (x ∷ xs) → from_on position (at + 1) (x ∷ xs) ≡ xs
  from_on_next at x xs h =
      from_on_first position (at + 1) x xs (omega (arith, h.0)) ∙ from_on_all (at + 1) (at + 1) xs h.1 (omega arith)

  pub stand_next : (at : ℕ) (xs : List T) → StandFrom position at xs → StandFrom position (at + 1) (from_on position (at + 1) xs)
  stand_next at [] h = tt
  stand_next at (x ∷ xs) h = rw (from_on_next at x xs h) h.1
