-- In the map each shard's locals are 0, 1, 2 and so on, so that each has one position.
use Rattle.std.proofs.Common.{◌≡◌, ℕ, zero, suc, ◌+◌, ◌-◌, ◌*◌, ◌≤◌, ◌==◌, ◌&&◌, true, false, List, [], ◌∷◌, ◌++◌, length, Option, Some, None, refl, sym, ap, ◌∙◌, inl, inr, arith, append_assoc}
use Rattle.std.specs.List.{slice_get, range_with_len}
use Rattle.std.specs.Option.{option_map}
use Rattle.std.proofs.lemmas.Bool.{cases_Bool, cond-true, cond-false, eqb-true, eq-eqb, and_parts, both_ways}
use Rattle.fix_ante.specs.declared.spots.Owner.{Owner}
use Rattle.fix_ante.specs.Windows.{Window, has_row, start_after}
use Rattle.fix_ante.specs.Layout.{rounds_from, layout_of, index_of}
use Rattle.fix_ante.specs.Locals.{locals_of, quota_of}
use Rattle.fix_ante.proofs.LocalLemmas.{locals_of_append, locals_of_rounds_from, start_after_add}
use Rattle.cut_core.specs.Agreements.{Agreement, count_of, is_gone}
use Rattle.cut_core.specs.Map.{rest_of, granted_layout, map_of, mapped, leased, located, placed}
use Rattle.cut_core.proofs.Counts.{quota_of_absent, dense_more, dense_none, count_of_more}
use Rattle.cut_core.specs.Soundness.{IsSound, MayBeGrant}
use Rattle.cut_core.proofs.Kept.{gone_row}

-- a shard's locals are 0, 1, 2 and so on
abbrev pub IsDense : ℕ → List Owner → Type 0
IsDense shard owners = locals_of shard owners ≡ range_with_len 0 (count_of shard owners)

-- owners that go on where those before stop
dense_append : (shard : ℕ) (xs ys : List Owner) (from count : ℕ) → IsDense shard xs → locals_of shard ys ≡ range_with_len from count → from ≡ count_of shard xs
    → IsDense shard (xs ++ ys)
dense_append shard xs ys from count dense next goes =
    let joined = locals_of_append shard xs ys in
    joined ∙ dense_more (locals_of shard xs) (locals_of shard ys) from count dense next goes ∙ ap (λ t. range_with_len 0 (length t)) (sym joined)

-- owners of other shards
dense_others : (shard : ℕ) (xs ys : List Owner) → IsDense shard xs → locals_of shard ys ≡ [] → IsDense shard (xs ++ ys)
dense_others shard xs ys dense none =
    let joined = locals_of_append shard xs ys in
    joined ∙ dense_none (locals_of shard xs) (locals_of shard ys) dense none ∙ ap (λ t. range_with_len 0 (length t)) (sym joined)

-- no locals where no row is the shard's
absent_rounds : (a : Window) (round count shard : ℕ)
    → locals_of shard (rounds_from a.spots round count) ≡ range_with_len (start_after a.spots round shard) (count * quota_of a.spots shard)
    → has_row shard a.spots ≡ false → locals_of shard (rounds_from a.spots round count) ≡ []
absent_rounds a round count shard is none =
    let zero_quota = quota_of_absent a.spots shard none in
    let nothing : count * quota_of a.spots shard ≡ zero = ap (λ n. count * n) zero_quota ∙ omega arith in
    is ∙ ap (range_with_len (start_after a.spots round shard)) nothing

rest_locals : (a : Agreement) (shard : ℕ) → IsSound a
    → locals_of shard (rest_of a) ≡ range_with_len (start_after a.current.spots a.rounds shard) ((a.current.rounds - a.rounds) * quota_of a.current.spots shard)
rest_locals a shard is = locals_of_rounds_from a.current.spots a.rounds (a.current.rounds - a.rounds) shard is.window.table.distinct

-- the covered owners and the rest of the window
pub dense_rest : (a : Agreement) (shard : ℕ) → IsSound a → IsDense shard (a.covered ++ rest_of a)
dense_rest a shard is =
    elim (cases_Bool (is_gone a shard)) [
      | inl gone ↦ dense_others shard a.covered (rest_of a) (is.dense shard) (absent_rounds a.current a.rounds (a.current.rounds - a.rounds) shard (rest_locals a shard is) (gone_row a is.rows shard gone))
      | inr stays ↦ dense_append shard a.covered (rest_of a) _ _ (is.dense shard) (rest_locals a shard is) (is.starts shard stays)
    ]

-- where a shard goes on after the window
pub count_rest : (a : Agreement) (shard : ℕ) → IsSound a → is_gone a shard ≡ false
    → start_after a.current.spots a.current.rounds shard ≡ count_of shard (a.covered ++ rest_of a)
count_rest a shard is stays =
    let left = a.current.rounds - a.rounds in
    let all : a.current.rounds ≡ a.rounds + left = omega (arith, is.short) in
    let before = is.starts shard stays in
    let more = start_after_add a.current.spots a.rounds left shard in
    let count = count_of_more shard a.covered a.current.spots a.rounds left is.window.table.distinct in
    ap (λ n. start_after a.current.spots n shard) all ∙ (more ∙ (ap (λ n. n + left * quota_of a.current.spots shard) before ∙ sym count))

granted_dense : (a : Agreement) (g : Option Window) (shard : ℕ) → IsSound a → MayBeGrant a g → IsDense shard ((a.covered ++ rest_of a) ++ granted_layout g)
granted_dense a None shard is grant = dense_others shard (a.covered ++ rest_of a) [] (dense_rest a shard is) refl
granted_dense a (Some w) shard is grant =
    let locals = locals_of_rounds_from w.spots 0 w.rounds shard grant.window.table.distinct in
    elim (cases_Bool (has_row shard w.spots)) [
      | inl row ↦ dense_append shard (a.covered ++ rest_of a) (layout_of w) _ _ (dense_rest a shard is) locals (grant.starts shard row ∙ count_rest a shard is (grant.stays shard row))
      | inr none ↦ dense_others shard (a.covered ++ rest_of a) (layout_of w) (dense_rest a shard is) (absent_rounds w 0 w.rounds shard locals none)
    ]

-- in the map each shard's locals are 0, 1, 2 and so on
pub map_dense : (a : Agreement) (shard : ℕ) → IsSound a → IsDense shard (map_of a)
map_dense a shard is =
    let e = append_assoc a.covered (rest_of a) (granted_layout a.granted) in
    ap (locals_of shard) (sym e) ∙ granted_dense a a.granted shard is is.grant ∙ ap (λ t. range_with_len 0 (count_of shard t)) e

-- ---- indices and entries where locals are dense

same_test : (o : Owner) (shard local : ℕ) → ((o.shard == shard) && (o.local == local)) ≡ true → (o.shard ≡ shard) × (o.local ≡ local)
same_test o shard local e =
    let parts = and_parts (o.shard == shard) (o.local == local) e in
    (eqb-true o.shard shard parts.0, eqb-true o.local local parts.1)

next_index : (i : ℕ) (index : Option ℕ) → option_map suc index ≡ Some i → (j : ℕ) × (index ≡ Some j) × (i ≡ suc j)
next_index i None e = absurd (cc)
next_index i (Some j) e = (j, refl, cc)

-- the owner stands at its index
pub slice_get_index_of : (os : List Owner) (shard local i : ℕ) → index_of os shard local ≡ Some i
    → slice_get os i ≡ Some (record { shard = shard; local = local })
slice_get_index_of [] shard local i e = absurd (cc)
slice_get_index_of (o ∷ os) shard local i e =
    elim (cases_Bool ((o.shard == shard) && (o.local == local))) [
      | inl same ↦
          let at : Some 0 ≡ Some i = sym (cond-true _ _ _ same) ∙ e in
          let first : i ≡ 0 = cc in
          let parts = same_test o shard local same in
          let owner : ℕ → ℕ → Option Owner = λ s l. Some (record { shard = s; local = l }) in
          ap (slice_get (o ∷ os)) first ∙ (ap (λ s. owner s o.local) parts.0 ∙ ap (owner shard) parts.1)
      | inr other ↦
          let next = next_index i (index_of os shard local) (sym (cond-false _ _ _ other) ∙ e) in
          ap (slice_get (o ∷ os)) next.2 ∙ slice_get_index_of os shard local next.0 next.1
    ]

-- below the first local there is none
pub range_with_len_head : (n count x : ℕ) (xs : List ℕ) → x ∷ xs ≡ range_with_len n count
    → (less : ℕ) × (count ≡ suc less) × (x ≡ n) × (xs ≡ range_with_len (n + 1) less)
range_with_len_head n zero x xs e = absurd (cc)
range_with_len_head n (suc count) x xs e = (count, refl, cc, cc)

-- an owner that stands somewhere isn't below the first of its shard's locals
pub local_from : (os : List Owner) (shard local i n count : ℕ) → locals_of shard os ≡ range_with_len n count
    → slice_get os i ≡ Some (record { shard = shard; local = local }) → n ≤ local
local_from [] shard local i n count dense e = absurd (cc)
local_from (o ∷ os) shard local zero n count dense e =
    let same : o.shard ≡ shard = cc in
    let is : o.local ≡ local = cc in
    let head = range_with_len_head n count o.local (locals_of shard os) (sym (cond-true _ _ _ (eq-eqb o.shard shard same)) ∙ dense) in
    omega (arith, head.2)
local_from (o ∷ os) shard local (suc i) n count dense e =
    elim (cases_Bool (o.shard == shard)) [
      | inl same ↦
          let head = range_with_len_head n count o.local (locals_of shard os) (sym (cond-true _ _ _ same) ∙ dense) in
          let later = local_from os shard local i (n + 1) head.0 head.3 e in
          omega arith
      | inr other ↦ local_from os shard local i n count (sym (cond-false _ _ _ other) ∙ dense) e
    ]

-- an owner's index is where it stands, where its shard's locals are dense
pub index_of_dense : (os : List Owner) (shard local i n count : ℕ) → locals_of shard os ≡ range_with_len n count
    → slice_get os i ≡ Some (record { shard = shard; local = local }) → index_of os shard local ≡ Some i
index_of_dense [] shard local i n count dense e = absurd (cc)
index_of_dense (o ∷ os) shard local zero n count dense e =
    let same : o.shard ≡ shard = cc in
    let is : o.local ≡ local = cc in
    let a = eq-eqb o.shard shard same in
    let b = eq-eqb o.local local is in
    rw (a, b)
index_of_dense (o ∷ os) shard local (suc i) n count dense e =
    elim (cases_Bool (o.shard == shard)) [
      | inl same ↦
          let head = range_with_len_head n count o.local (locals_of shard os) (sym (cond-true _ _ _ same) ∙ dense) in
          let later = local_from os shard local i (n + 1) head.0 head.3 e in
          elim (cases_Bool ((o.shard == shard) && (o.local == local))) [
            | inl both ↦ let parts = same_test o shard local both in absurd (omega (arith, head.2, parts.1))
            | inr other ↦ cond-false _ _ _ other ∙ ap (option_map suc) (index_of_dense os shard local i (n + 1) head.0 head.3 e)
          ]
      | inr other ↦
          elim (cases_Bool ((o.shard == shard) && (o.local == local))) [
            | inl both ↦ absurd (both_ways _ other ((and_parts (o.shard == shard) (o.local == local) both).0))
            | inr apart ↦ cond-false _ _ _ apart ∙ ap (option_map suc) (index_of_dense os shard local i n count (sym (cond-false _ _ _ other) ∙ dense) e)
          ]
    ]

-- a lease and the owner of a position are inverse, in the map and among the covered positions
pub leased_mapped : (a : Agreement) (p : ℕ) (o : Owner) → IsSound a → mapped a p ≡ Some o → leased a o.shard o.local ≡ Some p
leased_mapped a p o is e = index_of_dense (map_of a) o.shard o.local p 0 (count_of o.shard (map_of a)) (map_dense a o.shard is) e

pub mapped_leased : (a : Agreement) (shard local p : ℕ) → leased a shard local ≡ Some p → mapped a p ≡ Some (record { shard = shard; local = local })
mapped_leased a shard local p e = slice_get_index_of (map_of a) shard local p e

pub placed_located : (a : Agreement) (p : ℕ) (o : Owner) → IsSound a → located a p ≡ Some o → placed a o.shard o.local ≡ Some p
placed_located a p o is e = index_of_dense a.covered o.shard o.local p 0 (count_of o.shard a.covered) (is.dense o.shard) e
