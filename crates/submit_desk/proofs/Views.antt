-- What holds of each pass after one pass's view has changed, or after one pass more; and a function with one value changed.
use Rattle.std.proofs.Common.{◌≡◌, ◌≢◌, ℕ, zero, suc, ◌⊎◌, inl, inr, cond, List, [], ◌∷◌, ◌++◌, length, set, sym, refl, ap, subst, ⊎_elim, eqb, eq-eqb, ne_eqb}
use Rattle.std.specs.List.{AllByRecursion}
use mathlib.Core.Option.{Option, some, some-injective, some-ne-none}
use lib.ListN.{get_elem?}
use Rattle.crossbeam_queue.proofs.Lists.{at_set}
use Rattle.submit_desk.specs.declared.knows.Knows.{Knows}
use Rattle.submit_desk.specs.Rule.{Each}

pub each_set : (F : ℕ → Knows → Type 0) (views : List Knows) (pass : ℕ) (w : Knows) → F pass w
    → ((j : ℕ) (u : Knows) → j ≢ pass → get_elem? views j ≡ some u → F j u) → Each F (set views pass w)
each_set F views pass w mine others j u e = ⊎_elim
    (λ (x : (j ≡ pass) × (w ≡ u)). subst (λ (y : ℕ × Knows). F y.0 y.1) (λ i. (sym x.0 i, x.1 i)) mine)
    (λ (x : (j ≢ pass) × (get_elem? views j ≡ some u)). others j u x.0 x.1)
    (at_set views pass j w u e)

last_or_before : (l : List Knows) (a b : Knows) (j : ℕ) → get_elem? (l ++ a ∷ []) j ≡ some b → (get_elem? l j ≡ some b) ⊎ ((j ≡ length l) × (a ≡ b))
last_or_before [] a b zero e = inr (refl, some-injective a b e)
last_or_before [] a b (suc j) e = absurd (some-ne-none b (sym e))
last_or_before (x ∷ xs) a b zero e = inl e
last_or_before (x ∷ xs) a b (suc j) e = ⊎_elim
    (λ (y : get_elem? xs j ≡ some b). inl y)
    (λ (y : (j ≡ length xs) × (a ≡ b)). inr (ap suc y.0, y.1))
    (last_or_before xs a b j e)

pub each_snoc : (F : ℕ → Knows → Type 0) (views : List Knows) (w : Knows) → Each F views → F (length views) w → Each F (views ++ w ∷ [])
each_snoc F views w before last j u e = ⊎_elim
    (λ (x : get_elem? views j ≡ some u). before j u x)
    (λ (x : (j ≡ length views) × (w ≡ u)). subst (λ (y : ℕ × Knows). F y.0 y.1) (λ i. (sym x.0 i, x.1 i)) last)
    (last_or_before views w u j e)

-- a function with another value at one number
abbrev pub placed : ℕ → Option ℕ → (ℕ → Option ℕ) → ℕ → Option ℕ
placed by value seat b = cond (eqb b by) value (seat b)

pub placed_here : (by : ℕ) (value : Option ℕ) (seat : ℕ → Option ℕ) → placed by value seat by ≡ value
placed_here by value seat = ap (λ c. cond c value (seat by)) (eq-eqb by by refl)

pub placed_else : (by : ℕ) (value : Option ℕ) (seat : ℕ → Option ℕ) (b : ℕ) → b ≢ by → placed by value seat b ≡ seat b
placed_else by value seat b other = ap (λ c. cond c value (seat b)) (ne_eqb b by other)

pub all_weaker : {X : Type 0} (P Q : X → Type 0) → ((x : X) → P x → Q x) → (xs : List X) → AllByRecursion P xs → AllByRecursion Q xs
all_weaker P Q f [] h = tt
all_weaker P Q f (x ∷ xs) h = (f x h.0, all_weaker P Q f xs h.1)
