-- The map part by part: the covered owners, the rest of the current window, the granted window.
use Rattle.std.proofs.Common.{◌≡◌, ℕ, ◌+◌, ◌-◌, ◌*◌, ◌<◌, ◌≤◌, [], ◌++◌, length, Option, Some, None, refl, sym, ap, ◌∙◌, inl, inr, arith, length-append}
use Rattle.std.specs.Prelude.{IsSome}
use Rattle.std.specs.List.{slice_get}
use Rattle.std.specs.Option.{option_map, option_or, option_and_then}
use Rattle.std.proofs.lemmas.Bool.{cases_Bool, cases_lt}
use Rattle.std.proofs.lemmas.Option.{slice_get_cases, slice_get_past}
use Rattle.fix_ante.specs.declared.spots.Owner.{Owner}
use Rattle.fix_ante.specs.Windows.{Window, has_row, width_of, end_of, start_after}
use Rattle.fix_ante.specs.Layout.{rounds_from, layout_of, index_of, place_of, owner_of}
use Rattle.fix_ante.specs.Locals.{quota_of}
use Rattle.fix_ante.proofs.Entries.{slice_get_append_left, slice_get_append_right}
use Rattle.fix_ante.proofs.LayoutLemmas.{length_rounds_from, rounds_from_add}
use Rattle.fix_ante.proofs.LocalLemmas.{locals_of_rounds_from, start_after_add}
use Rattle.fix_ante.proofs.PositionLemmas.{owner_of_at, owner_of_outside, owner_of_some}
use Rattle.cut_core.specs.Agreements.{Agreement, count_of}
use Rattle.cut_core.specs.Map.{rest_of, granted_layout, map_of, mapped, leased, located, placed}
use Rattle.cut_core.proofs.Counts.{quota_of_absent, start_after_absent}
use Rattle.cut_core.specs.Soundness.{IsSound, MayBeGrant}
use Rattle.cut_core.proofs.Indices.{option_or_some, option_or_none, option_map_add, option_map_or, index_of_append, index_of_past, index_of_some}

-- who has a position in a window that may be granted, and the position that it gives to a local
abbrev pub owner_in_grant : Option Window → ℕ → Option Owner
owner_in_grant g p = option_and_then (λ (w : Window). owner_of w p) g

abbrev pub place_in_grant : Option Window → ℕ → ℕ → Option ℕ
place_in_grant g shard local = option_and_then (λ (w : Window). place_of w shard local) g

-- ---- where the parts begin and end

rounds_sum : (base first left rounds width covered rest : ℕ) → rounds ≡ first + left → covered ≡ base + first * width → rest ≡ left * width
    → covered + rest ≡ base + rounds * width
rounds_sum base first left rounds width covered rest split c r = rw (split, c, r) (omega arith)

rounds_split : (a : Agreement) → IsSound a → a.current.rounds ≡ a.rounds + (a.current.rounds - a.rounds)
rounds_split a is = omega (arith, is.short)

-- the rest ends where the window does
pub length_rest : (a : Agreement) → IsSound a → length a.covered + length (rest_of a) ≡ end_of a.current
length_rest a is =
    rounds_sum a.current.base a.rounds (a.current.rounds - a.rounds) a.current.rounds (width_of a.current) (length a.covered) (length (rest_of a)) (rounds_split a is) is.covered (length_rounds_from a.current.spots a.rounds (a.current.rounds - a.rounds))

-- the current window is its covered rounds and the rest
pub layout_rest : (a : Agreement) → IsSound a → layout_of a.current ≡ rounds_from a.current.spots 0 a.rounds ++ rest_of a
layout_rest a is =
    let left = a.current.rounds - a.rounds in
    let from : 0 + a.rounds ≡ a.rounds = omega arith in
    ap (rounds_from a.current.spots 0) (rounds_split a is)
    ∙ rounds_from_add a.current.spots 0 a.rounds left
    ∙ ap (λ n. rounds_from a.current.spots 0 a.rounds ++ rounds_from a.current.spots n left) from

-- ---- owners

pub mapped_covered : (a : Agreement) (p : ℕ) → p < length a.covered → mapped a p ≡ located a p
mapped_covered a p h = slice_get_append_left a.covered (rest_of a ++ granted_layout a.granted) p h

-- the owner of a place of the rest
owner_rest : (a : Agreement) (i : ℕ) → IsSound a → owner_of a.current (length a.covered + i) ≡ slice_get (rest_of a) i
owner_rest a i is =
    let before = a.rounds * width_of a.current in
    let at : length a.covered + i ≡ a.current.base + (before + i) = omega (arith, is.covered) in
    ap (owner_of a.current) at
    ∙ owner_of_at a.current (before + i)
    ∙ ap (λ xs. slice_get xs (before + i)) (layout_rest a is)
    ∙ slice_get_append_right (rounds_from a.current.spots 0 a.rounds) (rest_of a) before i (length_rounds_from a.current.spots 0 a.rounds)

pub mapped_current : (a : Agreement) (p : ℕ) → IsSound a → length a.covered ≤ p → p < end_of a.current → mapped a p ≡ owner_of a.current p
mapped_current a p is from below =
    let i = p - length a.covered in
    let split : p ≡ length a.covered + i = omega arith in
    let within : i < length (rest_of a) = omega (arith, length_rest a is) in
    ap (slice_get (map_of a)) split
    ∙ slice_get_append_right a.covered (rest_of a ++ granted_layout a.granted) (length a.covered) i refl
    ∙ slice_get_append_left (rest_of a) (granted_layout a.granted) i within
    ∙ sym (owner_rest a i is)
    ∙ ap (owner_of a.current) (sym split)

after_rest : (a : Agreement) (g : Option Window) (p : ℕ) → IsSound a → MayBeGrant a g → end_of a.current ≤ p
    → slice_get (a.covered ++ (rest_of a ++ granted_layout g)) p ≡ owner_in_grant g p
after_rest a None p is grant past =
    slice_get_past (a.covered ++ (rest_of a ++ [])) p (omega (arith, length-append a.covered (rest_of a ++ []), length-append {A = Owner} (rest_of a) [], length_rest a is))
after_rest a (Some w) p is grant past =
    let i = p - end_of a.current in
    let size = length_rest a is in
    let split : p ≡ length a.covered + (length (rest_of a) + i) = omega arith in
    let at : w.base + i ≡ p = omega (arith, grant.base) in
    ap (slice_get (a.covered ++ (rest_of a ++ layout_of w))) split
    ∙ slice_get_append_right a.covered (rest_of a ++ layout_of w) (length a.covered) (length (rest_of a) + i) refl
    ∙ slice_get_append_right (rest_of a) (layout_of w) (length (rest_of a)) i refl
    ∙ sym (owner_of_at w i)
    ∙ ap (owner_of w) at

pub mapped_granted : (a : Agreement) (p : ℕ) → IsSound a → end_of a.current ≤ p → mapped a p ≡ owner_in_grant a.granted p
mapped_granted a p is past = after_rest a a.granted p is is.grant past

pub some_value : {X : Type 0} (o : Option X) → IsSome o → (x : X) × (o ≡ Some x)
some_value None h = absurd (cc)
some_value (Some x) h = (x, refl)

-- who has a position, looked up in the covered positions, then in the current window, then in the granted one
pub mapped_parts : (a : Agreement) (p : ℕ) → IsSound a → mapped a p ≡ option_or (located a p) (option_or (owner_of a.current p) (owner_in_grant a.granted p))
mapped_parts a p is =
    let later = option_or (owner_of a.current p) (owner_in_grant a.granted p) in
    elim ((slice_get_cases a.covered p).1) [
      | inl there ↦ mapped_covered a p there.1 ∙ (there.2 ∙ sym (option_or_some (located a p) later there.0 there.2))
      | inr past ↦
          elim (cases_lt p (end_of a.current)) [
            | inl below ↦
                let base : a.current.base ≤ p = omega (arith, is.covered, past.0) in
                let owner = some_value (owner_of a.current p) (owner_of_some a.current p base below) in
                mapped_current a p is past.0 below ∙ (owner.1 ∙ (sym (option_or_some (owner_of a.current p) (owner_in_grant a.granted p) owner.0 owner.1) ∙ sym (option_or_none (located a p) later past.1)))
            | inr after ↦
                mapped_granted a p is after
                ∙ (sym (option_or_none (owner_of a.current p) (owner_in_grant a.granted p) (owner_of_outside a.current p (inr after))) ∙ sym (option_or_none (located a p) later past.1))
          ]
    ]

-- ---- positions of locals

-- the covered rounds of the current window have covered locals alone
covered_rounds : (a : Agreement) (shard local : ℕ) → IsSound a → count_of shard a.covered ≤ local
    → index_of (rounds_from a.current.spots 0 a.rounds) shard local ≡ None
covered_rounds a shard local is past =
    let locals = locals_of_rounds_from a.current.spots 0 a.rounds shard is.window.table.distinct in
    let quota = quota_of a.current.spots shard in
    index_of_past (rounds_from a.current.spots 0 a.rounds) shard local _ _ locals
    (elim (cases_Bool (has_row shard a.current.spots)) [
      | inl row ↦
          let from : 0 + a.rounds ≡ a.rounds = omega arith in
          let now : start_after a.current.spots (0 + a.rounds) shard ≡ count_of shard a.covered = ap (λ n. start_after a.current.spots n shard) from ∙ is.starts shard (is.rows shard row) in
          omega (arith, start_after_add a.current.spots 0 a.rounds shard, now)
      | inr none ↦
          let start = start_after_absent a.current.spots 0 shard none in
          let nothing : a.rounds * quota ≡ 0 = ap (λ n. a.rounds * n) (quota_of_absent a.current.spots shard none) ∙ omega arith in
          omega (arith, start, nothing)
    ])

-- the current window gives an uncovered local its place in the rest
pub place_rest : (a : Agreement) (shard local : ℕ) → IsSound a → count_of shard a.covered ≤ local
    → place_of a.current shard local ≡ option_map (λ i. length a.covered + i) (index_of (rest_of a) shard local)
place_rest a shard local is past =
    let before = rounds_from a.current.spots 0 a.rounds in
    let index = index_of (rest_of a) shard local in
    let size : a.current.base + length before ≡ length a.covered = omega (arith, is.covered, length_rounds_from a.current.spots 0 a.rounds) in
    ap (λ xs. option_map (λ i. a.current.base + i) (index_of xs shard local)) (layout_rest a is)
    ∙ ap (option_map (λ i. a.current.base + i)) (index_of_append before (rest_of a) shard local ∙ option_or_none (index_of before shard local) (option_map (λ i. length before + i) index) (covered_rounds a shard local is past))
    ∙ option_map_add a.current.base (length before) index
    ∙ ap (λ n. option_map (λ i. n + i) index) size

-- the granted window gives a local its place after the current one
place_grant : (a : Agreement) (g : Option Window) (shard local : ℕ) → IsSound a → MayBeGrant a g
    → option_map (λ i. length a.covered + length (rest_of a) + i) (index_of (granted_layout g) shard local) ≡ place_in_grant g shard local
place_grant a None shard local is grant = refl
place_grant a (Some w) shard local is grant =
    let base : length a.covered + length (rest_of a) ≡ w.base = length_rest a is ∙ sym grant.base in
    ap (λ n. option_map (λ i. n + i) (index_of (layout_of w) shard local)) base

-- the position of an uncovered local, looked up in the current window, then in the granted one
leased_uncovered : (a : Agreement) (shard local : ℕ) → IsSound a → count_of shard a.covered ≤ local
    → leased a shard local ≡ option_or (place_of a.current shard local) (place_in_grant a.granted shard local)
leased_uncovered a shard local is past =
    let size = length a.covered in
    let rest = index_of (rest_of a) shard local in
    let granted = index_of (granted_layout a.granted) shard local in
    let placed_none = index_of_past a.covered shard local 0 _ (is.dense shard) (omega arith) in
    index_of_append a.covered (rest_of a ++ granted_layout a.granted) shard local
    ∙ option_or_none (index_of a.covered shard local) (option_map (λ i. size + i) (index_of (rest_of a ++ granted_layout a.granted) shard local)) placed_none
    ∙ ap (option_map (λ i. size + i)) (index_of_append (rest_of a) (granted_layout a.granted) shard local)
    ∙ option_map_or size rest (option_map (λ i. length (rest_of a) + i) granted)
    ∙ ap (λ o. option_or (option_map (λ i. size + i) rest) o) (option_map_add size (length (rest_of a)) granted ∙ place_grant a a.granted shard local is is.grant)
    ∙ ap (λ o. option_or o (place_in_grant a.granted shard local)) (sym (place_rest a shard local is past))

-- the position of a local, looked up among the covered ones, then in the current window, then in the granted one
pub leased_parts : (a : Agreement) (shard local : ℕ) → IsSound a
    → leased a shard local ≡ option_or (placed a shard local) (option_or (place_of a.current shard local) (place_in_grant a.granted shard local))
leased_parts a shard local is =
    let later = option_or (place_of a.current shard local) (place_in_grant a.granted shard local) in
    elim (cases_lt local (count_of shard a.covered)) [
      | inl below ↦
          let index = index_of_some a.covered shard local (is.dense shard) below in
          index_of_append a.covered (rest_of a ++ granted_layout a.granted) shard local
          ∙ (option_or_some (index_of a.covered shard local) (option_map (λ i. length a.covered + i) (index_of (rest_of a ++ granted_layout a.granted) shard local)) index.0 index.1
          ∙ sym (option_or_some (placed a shard local) later index.0 index.1))
      | inr past ↦
          leased_uncovered a shard local is past ∙ sym (option_or_none (placed a shard local) later (index_of_past a.covered shard local 0 _ (is.dense shard) (omega arith)))
    ]
