-- Lists: a change at one place, and flags of the numbers of a range.
use Rattle.std.proofs.Common.{◌≡◌, ℕ, zero, suc, ◌+◌, ◌<◌, ◌≤◌, Bool, false, not, cond, List, [], ◌∷◌, ◌++◌, length, map, get_or, replicate, Some, None, refl, sym, ap, ◌∙◌, append_assoc, arith}
use Rattle.std.specs.Prelude.{slice_set, IsSomeAnd}
use Rattle.std.specs.List.{AllByRecursion, range_with_len, flat_map, slice_get, find, position_from}
use Rattle.std.proofs.lemmas.List.{append-nil, map-append, replicate_more}
use Rattle.std.proofs.lemmas.List.FromFn.{map-range_with_len_more}
use Rattle.std.proofs.lemmas.Option.{slice_get_read}
use Rattle.std.proofs.lemmas.List.Concat.{flat_map-append}
use Rattle.fix_ante.proofs.LocalLemmas.{range_with_len_append}

-- ---- two functions that differ at one place of a list

pub map_same : {X Y : Type 0} → (f g : X → Y) (xs : List X) → ((j : ℕ) (y : X) → slice_get xs j ≡ Some y → f y ≡ g y) → map f xs ≡ map g xs
map_same f g [] same = refl
map_same f g (x ∷ xs) same =
    ap (λ y. y ∷ map f xs) (same 0 x refl) ∙ ap (λ ys. g x ∷ ys) (map_same f g xs (λ j y e. same (suc j) y e))

pub set_map : {X Y : Type 0} → (f g : X → Y) (xs : List X) (i : ℕ) (x : X) → slice_get xs i ≡ Some x
    → ((j : ℕ) (y : X) → (j ≡ i → ⊥) → slice_get xs j ≡ Some y → f y ≡ g y)
    → slice_set (map f xs) i (g x) ≡ map g xs
set_map f g [] i x e same = absurd (cc)
set_map f g (y ∷ ys) zero x e same =
    let here : x ≡ y = cc in
    ap (λ z. g z ∷ map f ys) here ∙ ap (λ zs. g y ∷ zs) (map_same f g ys (λ j z there. same (suc j) z (λ at. absurd (cc)) there))
set_map f g (y ∷ ys) (suc i) x e same =
    ap (λ z. z ∷ slice_set (map f ys) i (g x)) (same 0 y (λ at. absurd (cc)) refl)
    ∙ ap (λ zs. g y ∷ zs) (set_map f g ys i x e (λ j z apart there. same (suc j) z (λ at. apart (cc)) there))

-- ---- flags of numbers

none_set : (f : ℕ → Bool) (a n : ℕ) → ((k : ℕ) → a ≤ k → f k ≡ false) → map f (range_with_len a n) ≡ replicate n false
none_set f a zero clear = refl
none_set f a (suc n) clear =
    ap (λ b. b ∷ map f (range_with_len (a + 1) n)) (clear a (omega arith))
    ∙ ap (λ bs. false ∷ bs) (none_set f (a + 1) n (λ k above. clear k (omega (arith, above))))

-- flags of more numbers, none of which is set
pub flags_more : (f : ℕ → Bool) (a n m : ℕ) → ((k : ℕ) → a + n ≤ k → f k ≡ false)
    → map f (range_with_len a (n + m)) ≡ map f (range_with_len a n) ++ replicate m false
flags_more f a n m clear =
    ap (map f) (sym (range_with_len_append a n m)) ∙ map-append f (range_with_len a n) (range_with_len (a + n) m)
    ∙ ap (λ bs. map f (range_with_len a n) ++ bs) (none_set f (a + n) m clear)

-- the first number whose flag isn't set
pub first_unset : (f : ℕ → Bool) (a n : ℕ) → position_from not a (map f (range_with_len a n)) ≡ find (λ k. not (f k)) (range_with_len a n)
first_unset f a zero = refl
first_unset f a (suc n) = ap (cond (not (f a)) (Some a)) (first_unset f (a + 1) n)

-- ---- loops

pub one_clear_more : (base now later : List Bool) (n : ℕ) → now ≡ base ++ replicate n false → later ≡ now ++ false ∷ []
    → later ≡ base ++ replicate (n + 1) false
one_clear_more base now later n so_far e =
    e ∙ ap (λ (bs : List Bool). bs ++ false ∷ []) so_far ∙ append_assoc base (replicate n false) (false ∷ [])
    ∙ ap (λ (bs : List Bool). base ++ bs) (replicate_more n false)

-- ---- what stands at a place

pub some_within : {X : Type 0} → (xs : List X) (i : ℕ) (P : X → Type 0) → IsSomeAnd (slice_get xs i) P → i < length xs
some_within [] i P is = absurd is
some_within (x ∷ xs) zero P is = omega arith
some_within (x ∷ xs) (suc i) P is = omega (arith, some_within xs i P is)

pub none_there : {X : Type 0} → (xs : List X) (i : ℕ) → i < length xs → slice_get xs i ≡ None → ⊥
none_there [] i below e = omega (arith, below)
none_there (x ∷ xs) zero below e = cc
none_there (x ∷ xs) (suc i) below e = none_there xs i (omega (arith, below)) e

-- what a read gives of a place where something stands
pub read_there : {X : Type 0} → (xs : List X) (i : ℕ) (x : X) (P : X → Type 0) → IsSomeAnd (slice_get xs i) P → x ≡ get_or xs i x → slice_get xs i ≡ Some x
read_there xs i x P there is = slice_get_read xs (length xs) i x refl (some_within xs i P there) is
