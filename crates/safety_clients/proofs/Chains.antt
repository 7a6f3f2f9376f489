-- A chain of homes, whatever makes it: each was gone at a moment at which the next one wasn't, so that the moments rise and no home comes again.
use Rattle.std.proofs.Common.{◌≡◌, ◌⊎◌, ◌∙◌, ℕ, zero, suc, ◌<◌, Bool, true, false, List, [], ◌∷◌, ◌++◌, length, get_or, Some, Contains, refl, sym, ap, subst, inl, inr, arith}
use Rattle.std.specs.List.{slice_get}
use Rattle.std.proofs.lemmas.Bool.{both_ways, cases_lt}
use Rattle.std.proofs.lemmas.List.{length-append}
use Rattle.std.proofs.lemmas.Option.{slice_get_within, slice_get-get_or, same_Some}
use Rattle.fix_ante.proofs.Entries.{slice_get_append_left}
use Rattle.runs.specs.Marks.{IsPrefix}
use Rattle.runs.specs.Homes.{Home}

-- ---- neighbours in a list, and any two of it

abbrev pub EachNext : {A : Type 0} → (A → A → Type 0) → List A → Type 0
EachNext {A} P xs = (i : ℕ) (x y : A) → slice_get xs i ≡ Some x → slice_get xs (suc i) ≡ Some y → P x y

abbrev pub EachLater : {A : Type 0} → (A → A → Type 0) → List A → Type 0
EachLater {A} P xs = (i j : ℕ) (x y : A) → i < j → slice_get xs i ≡ Some x → slice_get xs j ≡ Some y → P x y

-- what goes on from neighbours to neighbours is so of any two
pub each_later : {A : Type 0} (P : A → A → Type 0) (xs : List A) → ((x y z : A) → P x y → P y z → P x z) → EachNext P xs → EachLater P xs
each_later P xs on next i zero x y before here there = absurd (omega (arith, before))
each_later P xs on next i (suc j) x y before here there =
    elim (cases_lt i j) [
      | inl far ↦
          let below = slice_get_within xs (suc j) y there in
          let at = slice_get-get_or xs j x (omega (arith, below)) in
          on x (get_or xs j x) y (each_later P xs on next i j x (get_or xs j x) far here at) (next j (get_or xs j x) y at there)
      | inr near ↦
          let same : i ≡ j = omega (arith, before, near) in
          next j x y (ap (slice_get xs) (sym same) ∙ here) there
    ]

-- ---- members

pub member_at : {A : Type 0} (xs : List A) (x : A) → Contains xs x → (i : ℕ) × (slice_get xs i ≡ Some x)
member_at xs x there = (there.0, slice_get-get_or xs there.0 x there.1 ∙ ap (λ y. Some y) there.2)

-- ---- the end of a list

pub at_end : {A : Type 0} (xs : List A) (x : A) → slice_get (xs ++ x ∷ []) (length xs) ≡ Some x
at_end [] x = refl
at_end (y ∷ xs) x = at_end xs x

pub nothing_at : {A : Type 0} (i : ℕ) (y : A) → slice_get [] i ≡ Some y → ⊥
nothing_at i y at = cc

-- an entry of a list with one more member is one of the list, or that member
pub at_or_end : {A : Type 0} (xs : List A) (x y : A) (i : ℕ) → slice_get (xs ++ x ∷ []) i ≡ Some y → (slice_get xs i ≡ Some y) ⊎ ((i ≡ length xs) × (x ≡ y))
at_or_end [] x y zero at = inr (refl, same_Some x y at)
at_or_end [] x y (suc i) at = absurd (nothing_at i y at)
at_or_end (z ∷ xs) x y zero at = inl at
at_or_end (z ∷ xs) x y (suc i) at = elim (at_or_end xs x y i at) [
  | inl there ↦ inl there
  | inr end ↦ inr (ap suc end.0, end.1)
]

-- and so with more members
pub at_or_more : {A : Type 0} (xs ys : List A) (i : ℕ) (x : A) → slice_get (xs ++ ys) i ≡ Some x
    → (slice_get xs i ≡ Some x) ⊎ ((j : ℕ) × (slice_get ys j ≡ Some x))
at_or_more [] ys i x at = inr (i, at)
at_or_more (z ∷ xs) ys zero x at = inl at
at_or_more (z ∷ xs) ys (suc i) x at = at_or_more xs ys i x at

pub next_alone : {A : Type 0} (P : A → A → Type 0) (x : A) → EachNext P (x ∷ [])
next_alone P x i y z here there = absurd (nothing_at i z there)

-- one more after the last
pub next_push : {A : Type 0} (P : A → A → Type 0) (front : List A) (last x : A) → EachNext P (front ++ last ∷ []) → P last x
    → EachNext P ((front ++ last ∷ []) ++ x ∷ [])
next_push P front last x next more i y z here there =
    let whole = front ++ last ∷ [] in
    elim (at_or_end whole x z (suc i) there) [
      | inl among ↦
          let below = slice_get_within whole (suc i) z among in
          next i y z (sym (slice_get_append_left whole (x ∷ []) i (omega (arith, below))) ∙ here) among
      | inr end ↦
          let long = length-append front (last ∷ []) in
          let at : i ≡ length front = omega (arith, end.0, long) in
          let before : slice_get whole i ≡ Some y = sym (slice_get_append_left whole (x ∷ []) i (omega (arith, end.0))) ∙ here in
          let is : last ≡ y = same_Some last y (sym (at_end front last) ∙ (ap (slice_get whole) (sym at) ∙ before)) in
          subst (λ w. P w z) is (subst (P last) end.1 more)
    ]

-- two that stand one after the other
pub next_in : {A : Type 0} (P : A → A → Type 0) (xs before : List A) (x y : A) → EachNext P xs → IsPrefix (before ++ x ∷ y ∷ []) xs → P x y
next_in P xs before x y next p =
    next (length before) x y (ap (λ l. slice_get l (length before)) p.1 ∙ first_of before x y p.0)
    (ap (λ l. slice_get l (suc (length before))) p.1 ∙ second_of before x y p.0)
  where
    first_of : {A : Type 0} (before : List A) (x y : A) (rest : List A) → slice_get ((before ++ x ∷ y ∷ []) ++ rest) (length before) ≡ Some x
    first_of [] x y rest = refl
    first_of (z ∷ before) x y rest = first_of before x y rest

    second_of : {A : Type 0} (before : List A) (x y : A) (rest : List A) → slice_get ((before ++ x ∷ y ∷ []) ++ rest) (suc (length before)) ≡ Some y
    second_of [] x y rest = refl
    second_of (z ∷ before) x y rest = second_of before x y rest

-- ---- moments, at which shards are gone

module _ {X : Type 0} (gone : X → ℕ → Bool) where
  -- what is gone at the one moment is gone at the other
  abbrev pub GoesOn : X → X → Type 0
  GoesOn one other = (shard : ℕ) → gone one shard ≡ true → gone other shard ≡ true

  abbrev pub AreOrdered : Type 0
  AreOrdered = (one other : X) → GoesOn one other ⊎ GoesOn other one

  module _ (Begins : X → ℕ → Type 0) where
    -- a home is left at a moment at which it is gone and the next one isn't, and there the next one begins
    pub record IsLeft (earlier later : ℕ) : Type 0 where
      pub at : X
      pub left : gone at earlier ≡ true
      pub there : gone at later ≡ false
      pub begins : Begins at later

    -- so a home is left before the home after the next one comes
    pub left_on : AreOrdered → (a b c : ℕ) → IsLeft a b → IsLeft b c → IsLeft a c
    left_on ordered a b c first second = elim (ordered first.at second.at) [
      | inl on ↦ record { at = second.at; left = on a first.left; there = second.there; begins = second.begins }
      | inr back ↦ absurd (both_ways _ first.there (back b second.left))
    ]

    pub goes_in_turn : AreOrdered → (a b : ℕ) → IsLeft a b → (now : X) → gone now b ≡ true → gone now a ≡ true
    goes_in_turn ordered a b is now gone_now = elim (ordered is.at now) [
      | inl on ↦ on a is.left
      | inr back ↦ absurd (both_ways _ is.there (back b gone_now))
    ]

    abbrev pub AreLeft : Home → Home → Type 0
    AreLeft earlier later = IsLeft earlier.shard later.shard

    pub left_later : AreOrdered → (homes : List Home) → EachNext AreLeft homes → EachLater AreLeft homes
    left_later ordered homes = each_later AreLeft homes (λ x y z. left_on ordered x.shard y.shard z.shard)

    -- and no home comes again
    apart : (a b : ℕ) → IsLeft a b → a ≡ b → ⊥
    apart a b is same = both_ways _ is.there (subst (λ s. gone is.at s ≡ true) same is.left)

    pub never_again : AreOrdered → (homes : List Home) → EachNext AreLeft homes → (i j : ℕ) (home other : Home) → slice_get homes i ≡ Some home
        → slice_get homes j ≡ Some other
        → home.shard ≡ other.shard → i ≡ j
    never_again ordered homes next i j home other here there same =
        elim (cases_lt i j) [
          | inl sooner ↦ absurd (apart home.shard other.shard (left_later ordered homes next i j home other sooner here there) same)
          | inr not_sooner ↦ elim (cases_lt j i) [
            | inl later ↦ absurd (apart other.shard home.shard (left_later ordered homes next j i other home later there here) (sym same))
            | inr not_later ↦ omega (arith, not_sooner, not_later)
          ]
        ]
