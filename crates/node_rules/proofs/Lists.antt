-- Choices, options, folds and lists: what holds of all that they are made of holds of them.
use Rattle.std.proofs.Common.{◌≡◌, ℕ, zero, suc, ◌+◌, ◌<◌, ◌≤◌, Bool, true, false, if◌then◌else◌, List, [], ◌∷◌, ◌++◌, replicate, filter, get_or, set, Option, Some, None, refl, subst, arith}
use Rattle.std.specs.List.{AllByRecursion, fold, range_with_len, slice_get}
use Rattle.std.specs.Option.{option_map_or}
use Rattle.std.specs.Prelude.{Result, OnOk}

-- what holds of both sides of a choice holds of the choice
pub on_test : {A : Type 0} (P : A → Type 0) (b : Bool) (x y : A) → (b ≡ true → P x) → (b ≡ false → P y) → P (if b then x else y)
on_test P true x y left right = left refl
on_test P false x y left right = right refl

pub on_option : {A X : Type 0} (P : A → Type 0) (f : X → A) (o : Option X) (a : A) → ((x : X) → o ≡ Some x → P (f x)) → P a → P (option_map_or f o a)
on_option P f None a one holds = holds
on_option P f (Some x) a one holds = one x refl

pub on_fold : {A X : Type 0} (P : A → Type 0) (f : A → X → A) (xs : List X) (a : A) → ((b : A) (i : ℕ) (x : X) → slice_get xs i ≡ Some x → P b → P (f b x))
    → P a → P (fold f a xs)
on_fold P f [] a one holds = holds
on_fold P f (x ∷ xs) a one holds = on_fold P f xs (f a x) (λ b i y e. one b (suc i) y e) (one a 0 x refl holds)

-- what a call makes where it succeeds equals what that equals
pub on_ok : {T E X : Type 0} (r : Result T E) (x y z : X) → y ≡ z → OnOk r (x ≡ y) → OnOk r (x ≡ z)
on_ok {X} r x y z e is = subst (λ (w : X). OnOk r (x ≡ w)) e is

-- over numbers that rise
pub on_range : {A : Type 0} (P : A → Type 0) (f : A → ℕ → A) (from count end : ℕ) (a : A) → ((b : A) (i : ℕ) → from ≤ i → i < end → P b → P (f b i))
    → from + count ≤ end → P a → P (fold f a (range_with_len from count))
on_range P f from zero end a one fits holds = holds
on_range P f from (suc count) end a one fits holds =
    on_range P f (from + 1) count end (f a from) (λ b i above below. one b i (omega arith) below) (omega arith) (one a from (omega arith) (omega arith) holds)

-- ---- lists

pub all_append : {X : Type 0} (P : X → Type 0) (xs ys : List X) → AllByRecursion P xs → AllByRecursion P ys → AllByRecursion P (xs ++ ys)
all_append P [] ys first second = second
all_append P (x ∷ xs) ys first second = (first.0, all_append P xs ys first.1 second)

pub all_push : {X : Type 0} (P : X → Type 0) (xs : List X) (x : X) → AllByRecursion P xs → P x → AllByRecursion P (xs ++ x ∷ [])
all_push P xs x all here = all_append P xs (x ∷ []) all (here, tt)

pub all_replicate : {X : Type 0} (P : X → Type 0) (count : ℕ) (x : X) → P x → AllByRecursion P (replicate count x)
all_replicate P zero x here = tt
all_replicate P (suc count) x here = (here, all_replicate P count x here)

pub all_at : {X : Type 0} (P : X → Type 0) (xs : List X) (i : ℕ) (x : X) → AllByRecursion P xs → slice_get xs i ≡ Some x → P x
all_at P [] i x all e = absurd (cc)
all_at P (y ∷ ys) zero x all e = let same : y ≡ x = cc in subst P same all.0
all_at P (y ∷ ys) (suc i) x all e = all_at P ys i x all.1 e

pub all_weaken : {X : Type 0} (P Q : X → Type 0) (xs : List X) → ((x : X) → P x → Q x) → AllByRecursion P xs → AllByRecursion Q xs
all_weaken P Q [] each all = tt
all_weaken P Q (x ∷ xs) each all = (each x all.0, all_weaken P Q xs each all.1)

pub all_set : {X : Type 0} (P : X → Type 0) (xs : List X) (i : ℕ) (x : X) → AllByRecursion P xs → P x → AllByRecursion P (set xs i x)
all_set P [] i x all here = tt
all_set P (y ∷ xs) zero x all here = (here, all.1)
all_set P (y ∷ xs) (suc i) x all here = (all.0, all_set P xs i x all.1 here)

pub all_or : {X : Type 0} (P : X → Type 0) (xs : List X) (i : ℕ) (d : X) → AllByRecursion P xs → P d → P (get_or xs i d)
all_or P [] i d all here = here
all_or P (x ∷ xs) zero d all here = all.0
all_or P (x ∷ xs) (suc i) d all here = all_or P xs i d all.1 here

pub all_filter : {X : Type 0} (P : X → Type 0) (test : X → Bool) (xs : List X) → AllByRecursion P xs → AllByRecursion P (filter test xs)
all_filter P test [] all = tt
all_filter P test (x ∷ xs) all =
    let rest = all_filter P test xs all.1 in
    on_test (AllByRecursion P) (test x) (x ∷ filter test xs) (filter test xs) (λ _. (all.0, rest)) (λ _. rest)
