-- Two lists in one: what holds of all elements, what passes a test, and their order.
use Rattle.std.proofs.Common.{◌≡◌, Bool, true, false, List, [], ◌∷◌, ◌++◌, refl, ap, ◌∙◌}
use Rattle.std.specs.Prelude.{if◌then◌else◌}
use Rattle.std.specs.List.{AllByRecursion, filter}
use Rattle.std.specs.List.Sorted.{IsPermutation}
use Rattle.std.proofs.lemmas.List.Sorted.{IsPermutation-refl, IsPermutation-cons, IsPermutation-trans, IsPermutation-middle}
use Rattle.net_model.specs.Merges.{put_into, interleaved}

-- ---- the elements of both

permutes_choice : {X : Type 0} (b : Bool) (all front back : List X) → IsPermutation all front → IsPermutation all back
    → IsPermutation all (if b then front else back)
permutes_choice true all front back f g = f
permutes_choice false all front back f g = g

put_permutes : {X : Type 0} (first : X → X → Bool) (x : X) (rest : List X → List X) (zs : List X) → ((ys : List X) → IsPermutation (zs ++ ys) (rest ys))
    → (ys : List X) → IsPermutation (x ∷ (zs ++ ys)) (put_into first x rest ys)
put_permutes first x rest zs h [] = IsPermutation-cons x _ _ (h [])
put_permutes first x rest zs h (y ∷ ys) =
    permutes_choice (first x y) _ _ _ (IsPermutation-cons x _ _ (h (y ∷ ys)))
    (IsPermutation-trans _ _ _ (IsPermutation-middle (x ∷ zs) y ys) (IsPermutation-cons y _ _ (put_permutes first x rest zs h ys)))

pub permutes : {X : Type 0} (first : X → X → Bool) (xs ys : List X) → IsPermutation (xs ++ ys) (interleaved first xs ys)
permutes first [] ys = IsPermutation-refl ys
permutes first (x ∷ xs) ys = put_permutes first x (interleaved first xs) xs (permutes first xs) ys

all_choice : {X : Type 0} (P : X → Type 0) (b : Bool) (front back : List X) → AllByRecursion P front → AllByRecursion P back
    → AllByRecursion P (if b then front else back)
all_choice P true front back f g = f
all_choice P false front back f g = g

all_put : {X : Type 0} (P : X → Type 0) (first : X → X → Bool) (x : X) (rest : List X → List X) → P x
    → ((ys : List X) → AllByRecursion P ys → AllByRecursion P (rest ys))
    → (ys : List X) → AllByRecursion P ys → AllByRecursion P (put_into first x rest ys)
all_put P first x rest p h [] all = (p, h [] tt)
all_put P first x rest p h (y ∷ ys) all = all_choice P (first x y) _ _ (p, h (y ∷ ys) all) (all.0, all_put P first x rest p h ys all.1)

pub all_interleaved : {X : Type 0} (P : X → Type 0) (first : X → X → Bool) (xs ys : List X) → AllByRecursion P xs → AllByRecursion P ys
    → AllByRecursion P (interleaved first xs ys)
all_interleaved P first [] ys f g = g
all_interleaved P first (x ∷ xs) ys f g = all_put P first x (interleaved first xs) f.0 (λ zs h. all_interleaved P first xs zs f.1 h) ys g

-- ---- what passes a test

abbrev pub Fail : {X : Type 0} → (X → Bool) → List X → Type 0
Fail p = AllByRecursion (λ x. p x ≡ false)

abbrev pub kept : {X : Type 0} → Bool → X → List X → List X
kept b x rest = if b then x ∷ rest else rest

filter_choice : {X : Type 0} (p : X → Bool) (b : Bool) (front back all : List X) → filter p front ≡ all → filter p back ≡ all
    → filter p (if b then front else back) ≡ all
filter_choice p true front back all f g = f
filter_choice p false front back all f g = g

filter_skips : {X : Type 0} (p : X → Bool) (x : X) (xs : List X) → p x ≡ false → filter p (x ∷ xs) ≡ filter p xs
filter_skips p x xs e = ap (λ b. kept b x (filter p xs)) e

pub filter_takes : {X : Type 0} (p : X → Bool) (x : X) (xs : List X) → p x ≡ true → filter p (x ∷ xs) ≡ x ∷ filter p xs
filter_takes p x xs e = ap (λ b. kept b x (filter p xs)) e

-- where nothing of the second list passes
filter_put : {X : Type 0} (p : X → Bool) (first : X → X → Bool) (x : X) (rest : List X → List X) (zs : List X)
    → ((ys : List X) → Fail p ys → filter p (rest ys) ≡ filter p zs)
    → (ys : List X) → Fail p ys → filter p (put_into first x rest ys) ≡ filter p (x ∷ zs)
filter_put p first x rest zs h [] fail = ap (kept (p x) x) (h [] tt)
filter_put p first x rest zs h (y ∷ ys) fail =
    filter_choice p (first x y) _ _ _ (ap (kept (p x) x) (h (y ∷ ys) fail)) (filter_skips p y _ fail.0 ∙ filter_put p first x rest zs h ys fail.1)

pub filter_first : {X : Type 0} (p : X → Bool) (first : X → X → Bool) (xs ys : List X) → Fail p ys → filter p (interleaved first xs ys) ≡ filter p xs
filter_first p first [] [] fail = refl
filter_first p first [] (y ∷ ys) fail = filter_skips p y ys fail.0 ∙ filter_first p first [] ys fail.1
filter_first p first (x ∷ xs) ys fail = filter_put p first x (interleaved first xs) xs (filter_first p first xs) ys fail

-- where nothing of the first list passes
filter_past : {X : Type 0} (p : X → Bool) (first : X → X → Bool) (x : X) (rest : List X → List X) → p x ≡ false
    → ((ys : List X) → filter p (rest ys) ≡ filter p ys)
    → (ys : List X) → filter p (put_into first x rest ys) ≡ filter p ys
filter_past p first x rest e h [] = filter_skips p x (rest []) e ∙ h []
filter_past p first x rest e h (y ∷ ys) =
    filter_choice p (first x y) _ _ _ (filter_skips p x _ e ∙ h (y ∷ ys)) (ap (kept (p y) y) (filter_past p first x rest e h ys))

pub filter_second : {X : Type 0} (p : X → Bool) (first : X → X → Bool) (xs ys : List X) → Fail p xs → filter p (interleaved first xs ys) ≡ filter p ys
filter_second p first [] ys fail = refl
filter_second p first (x ∷ xs) ys fail = filter_past p first x (interleaved first xs) fail.0 (λ zs. filter_second p first xs zs fail.1) ys
