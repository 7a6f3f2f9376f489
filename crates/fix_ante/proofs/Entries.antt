-- An entry of a list of owners, and the index at which it stands.
use Rattle.std.proofs.Common.{◌≡◌, ◌≢◌, ℕ, zero, suc, ◌+◌, ◌<◌, ◌==◌, ◌&&◌, true, List, [], ◌∷◌, ◌++◌, length, Some, None, refl, ap, ◌∙◌, inl, inr, arith}
use Rattle.std.specs.List.{slice_get}
use Rattle.std.specs.Option.{option_map}
use Rattle.std.proofs.lemmas.Bool.{cases_Bool, cond-true, cond-false, eq-eqb, eqb-true, and_parts}
use Rattle.fix_ante.specs.declared.spots.Owner.{Owner}
use Rattle.fix_ante.specs.Layout.{index_of}

-- an entry of the first of two lists
pub slice_get_append_left : {X : Type 0} (xs ys : List X) (i : ℕ) → i < length xs → slice_get (xs ++ ys) i ≡ slice_get xs i
slice_get_append_left [] ys i h = absurd (omega arith)
slice_get_append_left (x ∷ xs) ys zero h = refl
slice_get_append_left (x ∷ xs) ys (suc i) h = slice_get_append_left xs ys i (omega arith)

-- an entry of the second, past the first
pub slice_get_append_right : {X : Type 0} (xs ys : List X) (n i : ℕ) → length xs ≡ n → slice_get (xs ++ ys) (n + i) ≡ slice_get ys i
slice_get_append_right [] ys n i e = let at : n + i ≡ i = omega arith in ap (slice_get ys) at
slice_get_append_right (x ∷ xs) ys zero i e = absurd (omega arith)
slice_get_append_right (x ∷ xs) ys (suc n) i e =
    let at : suc n + i ≡ suc (n + i) = omega arith in
    ap (slice_get ((x ∷ xs) ++ ys)) at ∙ slice_get_append_right xs ys n i (omega arith)

-- two owners with one shard and one local
same_owner : (o : Owner) (shard local : ℕ) → ((o.shard == shard) && (o.local == local)) ≡ true → o ≡ record { shard = shard; local = local }
same_owner o shard local e =
    let parts = and_parts (o.shard == shard) (o.local == local) e in
    let shards = eqb-true o.shard shard parts.0 in
    let locals = eqb-true o.local local parts.1 in
    let owner : ℕ → ℕ → Owner = λ s l. record { shard = s; local = l } in
    ap (λ s. owner s o.local) shards ∙ ap (owner shard) locals

own_test : (shard local : ℕ) → ((shard == shard) && (local == local)) ≡ true
own_test shard local = let a = eq-eqb shard shard refl in let b = eq-eqb local local refl in rw (a, b)

-- an owner's index is the only place where it stands
pub index_of_only : (os : List Owner) (shard local i : ℕ) → slice_get os i ≡ Some (record { shard = shard; local = local })
    → ((j : ℕ) → slice_get os j ≡ Some (record { shard = shard; local = local }) → j ≡ i) → index_of os shard local ≡ Some i
index_of_only [] shard local i e only = absurd (cc)
index_of_only (o ∷ os) shard local zero e only =
    let is : o ≡ record { shard = shard; local = local } = cc in
    rw is (cond-true _ _ _ (own_test shard local))
index_of_only (o ∷ os) shard local (suc i) e only =
    elim (cases_Bool ((o.shard == shard) && (o.local == local))) [
      | inl same ↦ let first : 0 ≡ suc i = only 0 (ap (λ x. Some x) (same_owner o shard local same)) in absurd (omega arith)
      | inr other ↦ cond-false _ _ _ other ∙ ap (option_map suc) (index_of_only os shard local i e (λ j h. let next = only (suc j) h in omega arith))
    ]

-- an owner that stands nowhere has no index
pub index_of_none : (os : List Owner) (shard local : ℕ) → ((j : ℕ) → slice_get os j ≢ Some (record { shard = shard; local = local }))
    → index_of os shard local ≡ None
index_of_none [] shard local nowhere = refl
index_of_none (o ∷ os) shard local nowhere =
    elim (cases_Bool ((o.shard == shard) && (o.local == local))) [
      | inl same ↦ absurd (nowhere 0 (ap (λ x. Some x) (same_owner o shard local same)))
      | inr other ↦ cond-false _ _ _ other ∙ ap (option_map suc) (index_of_none os shard local (λ j h. nowhere (suc j) h))
    ]
