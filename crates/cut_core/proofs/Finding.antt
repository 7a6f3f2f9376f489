-- Where a shard's local stands among owners whose locals go on without a gap.
use Rattle.std.proofs.Common.{◌≡◌, ℕ, zero, suc, ◌+◌, ◌-◌, ◌<◌, ◌≤◌, ◌==◌, List, [], ◌∷◌, ◌++◌, length, Option, Some, None, refl, sym, ap, ◌∙◌, subst, inl, inr, arith, append_assoc, length-append}
use Rattle.std.specs.List.{slice_get, range_with_len}
use Rattle.std.proofs.lemmas.Bool.{cases_Bool, cases_lt, cases_eq, cond-true, cond-false, eqb-true, eq-eqb, le-ltb}
use Rattle.std.proofs.lemmas.Option.{slice_get_within}
use Rattle.fix_ante.specs.declared.spots.Owner.{Owner}
use Rattle.fix_ante.specs.Windows.{Window, IsWindow}
use Rattle.fix_ante.specs.Layout.{rounds_from, layout_of, index_of, owner_of, place_of}
use Rattle.fix_ante.specs.Locals.{locals_of}
use Rattle.fix_ante.proofs.Entries.{slice_get_append_left, slice_get_append_right, index_of_none}
use Rattle.fix_ante.proofs.LayoutLemmas.{rounds_from_add}
use Rattle.fix_ante.proofs.LocalLemmas.{locals_of_append}
use Rattle.fix_ante.proofs.PositionLemmas.{place_of_owner}
use Rattle.cut_core.specs.Agreements.{count_of}
use Rattle.cut_core.proofs.Dense.{IsDense, range_with_len_head, index_of_dense}

-- ---- a shard's locals among owners where they stand one after another

-- each of them stands somewhere
local_found : (os : List Owner) (shard local n count : ℕ) → locals_of shard os ≡ range_with_len n count → n ≤ local → local < n + count
    → (i : ℕ) × (slice_get os i ≡ Some (record { shard = shard; local = local }))
local_found [] shard local n zero dense from below = absurd (omega arith)
local_found [] shard local n (suc count) dense from below = absurd (cc)
local_found (o ∷ os) shard local n count dense from below =
    elim (cases_Bool (o.shard == shard)) [
      | inl same ↦
          let head = range_with_len_head n count o.local (locals_of shard os) (sym (cond-true _ _ _ same) ∙ dense) in
          elim (cases_eq n local) [
            | inl here ↦
                let owner : ℕ → ℕ → Option Owner = λ s l. Some (record { shard = s; local = l }) in
                (0, ap (λ s. owner s o.local) (eqb-true o.shard shard same) ∙ ap (owner shard) (head.2 ∙ here))
            | inr later ↦
                let rest = local_found os shard local (n + 1) head.0 head.3 (omega (arith, later)) (omega (arith, head.1)) in
                (suc rest.0, rest.1)
          ]
      | inr other ↦
          let rest = local_found os shard local n count (sym (cond-false _ _ _ other) ∙ dense) from below in
          (suc rest.0, rest.1)
    ]

-- and no other does
local_below : (os : List Owner) (shard local i n count : ℕ) → locals_of shard os ≡ range_with_len n count
    → slice_get os i ≡ Some (record { shard = shard; local = local }) → local < n + count
local_below [] shard local i n count dense e = absurd (cc)
local_below (o ∷ os) shard local zero n count dense e =
    let same : o.shard ≡ shard = cc in
    let is : o.local ≡ local = cc in
    let head = range_with_len_head n count o.local (locals_of shard os) (sym (cond-true _ _ _ (eq-eqb o.shard shard same)) ∙ dense) in
    omega (arith, head.1, head.2)
local_below (o ∷ os) shard local (suc i) n count dense e =
    elim (cases_Bool (o.shard == shard)) [
      | inl same ↦
          let head = range_with_len_head n count o.local (locals_of shard os) (sym (cond-true _ _ _ same) ∙ dense) in
          let later = local_below os shard local i (n + 1) head.0 head.3 e in
          omega (arith, head.1)
      | inr other ↦ local_below os shard local i n count (sym (cond-false _ _ _ other) ∙ dense) e
    ]

pub dense_found : (os : List Owner) (shard local : ℕ) → IsDense shard os → local < count_of shard os
    → (i : ℕ) × (slice_get os i ≡ Some (record { shard = shard; local = local }))
dense_found os shard local dense below = local_found os shard local 0 (count_of shard os) dense (omega arith) (omega arith)

pub dense_below : (os : List Owner) (shard local i : ℕ) → IsDense shard os → slice_get os i ≡ Some (record { shard = shard; local = local })
    → local < count_of shard os
dense_below os shard local i dense e =
    let below = local_below os shard local i 0 (count_of shard os) dense e in
    omega arith

-- a local past the last has no index
pub index_of_dense_past : (os : List Owner) (shard local : ℕ) → IsDense shard os → count_of shard os ≤ local → index_of os shard local ≡ None
index_of_dense_past os shard local dense past =
    index_of_none os shard local (λ j e. let below = dense_below os shard local j dense e in omega arith)

-- the first of numbers that are counted up are counted up
range_with_len_front : (xs ys : List ℕ) (n count : ℕ) → xs ++ ys ≡ range_with_len n count → xs ≡ range_with_len n (length xs)
range_with_len_front [] ys n count e = refl
range_with_len_front (x ∷ xs) ys n count e =
    let head = range_with_len_head n count x (xs ++ ys) e in
    ap (λ m. m ∷ xs) head.2 ∙ ap (λ t. n ∷ t) (range_with_len_front xs ys (n + 1) head.0 head.3)

pub dense_front : (shard : ℕ) (xs ys : List Owner) → IsDense shard (xs ++ ys) → IsDense shard xs
dense_front shard xs ys dense =
    range_with_len_front (locals_of shard xs) (locals_of shard ys) 0 (count_of shard (xs ++ ys)) (sym (locals_of_append shard xs ys) ∙ dense)

-- more owners have no fewer of a shard
pub count_of_front : (shard : ℕ) (xs ys : List Owner) → count_of shard xs ≤ count_of shard (xs ++ ys)
count_of_front shard xs ys =
    omega (arith, ap length (locals_of_append shard xs ys), length-append (locals_of shard xs) (locals_of shard ys))

pub count_of_le : (shard : ℕ) (os : List Owner) → count_of shard os ≤ length os
count_of_le shard [] = omega arith
count_of_le shard (o ∷ os) =
    let rest = count_of_le shard os in
    elim (cases_Bool (o.shard == shard)) [
      | inl same ↦ omega (arith, ap length (cond-true (o.shard == shard) (o.local ∷ locals_of shard os) (locals_of shard os) same))
      | inr other ↦ omega (arith, ap length (cond-false (o.shard == shard) (o.local ∷ locals_of shard os) (locals_of shard os) other))
    ]

-- ---- the covered rounds of a window, in their place among owners

-- a position among them has its owner in the window
pub slice_get_window : (w : Window) (rounds : ℕ) (before after : List Owner) (p : ℕ) → rounds ≤ w.rounds → w.base ≡ length before → length before ≤ p
    → p < length (before ++ rounds_from w.spots 0 rounds) → slice_get (before ++ (rounds_from w.spots 0 rounds ++ after)) p ≡ owner_of w p
slice_get_window w rounds before after p fits base from below =
    let seen = rounds_from w.spots 0 rounds in
    let rest = rounds_from w.spots rounds (w.rounds - rounds) in
    let at = p - w.base in
    let split : p ≡ length before + at = omega arith in
    let within : at < length seen = omega (arith, length-append before seen) in
    let all : w.rounds ≡ rounds + (w.rounds - rounds) = omega arith in
    let next : 0 + rounds ≡ rounds = omega arith in
    let layout : layout_of w ≡ seen ++ rest =
    ap (rounds_from w.spots 0) all ∙ rounds_from_add w.spots 0 rounds (w.rounds - rounds) ∙ ap (λ n. seen ++ rounds_from w.spots n (w.rounds - rounds)) next in
    let found : slice_get (before ++ (seen ++ after)) p ≡ slice_get seen at =
    ap (slice_get (before ++ (seen ++ after))) split ∙ slice_get_append_right before (seen ++ after) (length before) at refl ∙ slice_get_append_left seen after at within in
    let entry : slice_get (layout_of w) at ≡ slice_get seen at = ap (λ os. slice_get os at) layout ∙ slice_get_append_left seen rest at within in
    let owner : owner_of w p ≡ slice_get (layout_of w) at = cond-false _ _ _ (le-ltb p w.base (omega arith)) in
    found ∙ (sym entry ∙ sym owner)

-- a local that stands first among them has its place in the window
pub index_of_window : (w : Window) (rounds : ℕ) (before after : List Owner) (shard local : ℕ) → IsWindow w → rounds ≤ w.rounds → w.base ≡ length before
    → IsDense shard (before ++ (rounds_from w.spots 0 rounds ++ after)) → count_of shard before ≤ local
    → local < count_of shard (before ++ rounds_from w.spots 0 rounds)
    → index_of (before ++ (rounds_from w.spots 0 rounds ++ after)) shard local ≡ place_of w shard local
index_of_window w rounds before after shard local is fits base dense from below =
    let seen = rounds_from w.spots 0 rounds in
    let all = before ++ (seen ++ after) in
    let joined : (before ++ seen) ++ after ≡ all = append_assoc before seen after in
    let dense_seen : IsDense shard (before ++ seen) = dense_front shard (before ++ seen) after (subst (IsDense shard) (sym joined) dense) in
    let dense_before : IsDense shard before = dense_front shard before seen dense_seen in
    let found = dense_found (before ++ seen) shard local dense_seen below in
    let p = found.0 in
    let within : p < length (before ++ seen) = slice_get_within (before ++ seen) p _ found.1 in
    let past : length before ≤ p = elim (cases_lt p (length before)) [
      | inl early ↦
          let entry : slice_get before p ≡ Some (record { shard = shard; local = local }) = sym (slice_get_append_left before seen p early) ∙ found.1 in
          let no = dense_below before shard local p dense_before entry in
          absurd (omega arith)
      | inr late ↦ late
    ] in
    let entry : slice_get all p ≡ Some (record { shard = shard; local = local }) =
    ap (λ os. slice_get os p) (sym joined) ∙ (slice_get_append_left (before ++ seen) after p within ∙ found.1) in
    let owner : owner_of w p ≡ Some (record { shard = shard; local = local }) = sym (slice_get_window w rounds before after p fits base past within) ∙ entry in
    let place = place_of_owner w p (record { shard = shard; local = local }) is owner in
    index_of_dense all shard local p 0 (count_of shard all) dense entry ∙ sym place.2
