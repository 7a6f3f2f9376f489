-- An owner's index in joined lists is the one in the first, or else that in the second, moved on.
use Rattle.std.proofs.Common.{◌≡◌, ℕ, suc, ◌+◌, ◌<◌, ◌≤◌, ◌==◌, ◌&&◌, true, false, List, [], ◌∷◌, ◌++◌, length, Option, Some, None, refl, sym, ap, ◌∙◌, inl, inr, arith}
use Rattle.std.specs.List.{range_with_len}
use Rattle.std.specs.Option.{option_map, option_or}
use Rattle.std.proofs.lemmas.Bool.{cases_Bool, cond-true, cond-false, eqb-true, and_parts}
use Rattle.fix_ante.specs.declared.spots.Owner.{Owner}
use Rattle.fix_ante.specs.Layout.{index_of}
use Rattle.fix_ante.specs.Locals.{locals_of}
use Rattle.cut_core.specs.Agreements.{count_of}
use Rattle.cut_core.proofs.Dense.{IsDense, range_with_len_head, index_of_dense}
use Rattle.cut_core.proofs.Finding.{dense_found}

-- ---- options one after another

pub option_or_some : {X : Type 0} (o p : Option X) (x : X) → o ≡ Some x → option_or o p ≡ Some x
option_or_some o p x e = ap (λ t. option_or t p) e

pub option_or_none : {X : Type 0} (o p : Option X) → o ≡ None → option_or o p ≡ p
option_or_none o p e = ap (λ t. option_or t p) e

-- no value stays none
pub option_map_none : {X Y : Type 0} (f : X → Y) (o : Option X) → o ≡ None → option_map f o ≡ None
option_map_none f o e = ap (option_map f) e

-- numbers added one after another
pub option_map_add : (m n : ℕ) (o : Option ℕ) → option_map (λ i. m + i) (option_map (λ i. n + i) o) ≡ option_map (λ i. m + n + i) o
option_map_add m n None = refl
option_map_add m n (Some i) = let sum : m + (n + i) ≡ m + n + i = omega arith in ap (λ k. Some k) sum

option_map_zero : (o : Option ℕ) → option_map (λ i. 0 + i) o ≡ o
option_map_zero None = refl
option_map_zero (Some i) = let same : 0 + i ≡ i = omega arith in ap (λ k. Some k) same

pub option_map_or : (n : ℕ) (o p : Option ℕ) → option_map (λ i. n + i) (option_or o p) ≡ option_or (option_map (λ i. n + i) o) (option_map (λ i. n + i) p)
option_map_or n None p = refl
option_map_or n (Some i) p = refl

next_or : (n : ℕ) (o p : Option ℕ) → option_map suc (option_or o (option_map (λ i. n + i) p)) ≡ option_or (option_map suc o) (option_map (λ i. suc n + i) p)
next_or n (Some i) p = refl
next_or n None None = refl
next_or n None (Some i) = let next : suc (n + i) ≡ suc n + i = omega arith in ap (λ k. Some k) next

-- ---- indices in joined lists

index_here : (o : Owner) (os : List Owner) (shard local : ℕ) → ((o.shard == shard) && (o.local == local)) ≡ true → index_of (o ∷ os) shard local ≡ Some 0
index_here o os shard local same = cond-true _ _ _ same

index_later : (o : Owner) (os : List Owner) (shard local : ℕ) → ((o.shard == shard) && (o.local == local)) ≡ false
    → index_of (o ∷ os) shard local ≡ option_map suc (index_of os shard local)
index_later o os shard local other = cond-false _ _ _ other

-- in the first list, or else in the second
pub index_of_append : (xs ys : List Owner) (shard local : ℕ)
    → index_of (xs ++ ys) shard local ≡ option_or (index_of xs shard local) (option_map (λ i. length xs + i) (index_of ys shard local))
index_of_append [] ys shard local = sym (option_map_zero (index_of ys shard local))
index_of_append (o ∷ os) ys shard local =
    let later = index_of ys shard local in
    elim (cases_Bool ((o.shard == shard) && (o.local == local))) [
      | inl same ↦ index_here o (os ++ ys) shard local same ∙ sym (option_or_some (index_of (o ∷ os) shard local) (option_map (λ i. length (o ∷ os) + i) later) 0 (index_here o os shard local same))
      | inr other ↦
          index_later o (os ++ ys) shard local other
          ∙ ap (option_map suc) (index_of_append os ys shard local)
          ∙ next_or (length os) (index_of os shard local) later
          ∙ ap (λ t. option_or t (option_map (λ i. suc (length os) + i) later)) (sym (index_later o os shard local other))
    ]

-- ---- which locals have an index, where a shard's locals are dense

-- a local that isn't the first one's has the same index as in the list after it
own_later : (o : Owner) (os : List Owner) (shard local : ℕ) → o.local + 1 ≤ local → index_of (o ∷ os) shard local ≡ option_map suc (index_of os shard local)
own_later o os shard local apart =
    elim (cases_Bool ((o.shard == shard) && (o.local == local))) [
      | inl both ↦ absurd (omega (arith, eqb-true o.local local ((and_parts (o.shard == shard) (o.local == local) both).1)))
      | inr other ↦ index_later o os shard local other
    ]

other_later : (o : Owner) (os : List Owner) (shard local : ℕ) → (o.shard == shard) ≡ false
    → index_of (o ∷ os) shard local ≡ option_map suc (index_of os shard local)
other_later o os shard local apart = index_later o os shard local (rw apart)

-- one past the last has none
pub index_of_past : (os : List Owner) (shard local n count : ℕ) → locals_of shard os ≡ range_with_len n count → n + count ≤ local
    → index_of os shard local ≡ None
index_of_past [] shard local n count dense past = refl
index_of_past (o ∷ os) shard local n count dense past =
    elim (cases_Bool (o.shard == shard)) [
      | inl same ↦
          let head = range_with_len_head n count o.local (locals_of shard os) (sym (cond-true _ _ _ same) ∙ dense) in
          own_later o os shard local (omega (arith, head.1, head.2)) ∙ ap (option_map suc) (index_of_past os shard local (n + 1) head.0 head.3 (omega (arith, head.1)))
      | inr other ↦ other_later o os shard local other ∙ ap (option_map suc) (index_of_past os shard local n count (sym (cond-false _ _ _ other) ∙ dense) past)
    ]

-- each of the first so many has one
pub index_of_some : (os : List Owner) (shard local : ℕ) → IsDense shard os → local < count_of shard os → (i : ℕ) × (index_of os shard local ≡ Some i)
index_of_some os shard local dense below =
    let found = dense_found os shard local dense below in
    (found.0, index_of_dense os shard local found.0 0 (count_of shard os) dense found.1)
