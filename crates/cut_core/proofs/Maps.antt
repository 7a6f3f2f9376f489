-- What each kind of entry does to the map of positions.
use Rattle.std.proofs.Common.{◌≡◌, ℕ, zero, suc, ◌+◌, ◌-◌, ◌*◌, ◌<◌, ◌≤◌, true, List, [], ◌++◌, length, Some, None, refl, sym, ap, ◌∙◌, inl, inr, arith, add-one, append-nil, append_assoc}
use Rattle.std.specs.List.{slice_get}
use Rattle.std.proofs.lemmas.Bool.{cases_lt}
use Rattle.std.proofs.lemmas.Nat.{mul-le}
use Rattle.quota_table.specs.Tables.{quotas_before}
use Rattle.fix_ante.specs.declared.spots.Owner.{Owner}
use Rattle.fix_ante.specs.Windows.{Window, rows_of, has_row, width_of}
use Rattle.fix_ante.specs.Layout.{round_of, rounds_from, layout_of}
use Rattle.fix_ante.specs.Positions.{owner_among}
use Rattle.fix_ante.specs.Moves.{first_failed_of}
use Rattle.fix_ante.proofs.Entries.{slice_get_append_left, slice_get_append_right}
use Rattle.fix_ante.proofs.LayoutLemmas.{length_rounds_from, slice_get_rounds_from}
use Rattle.fix_ante.proofs.MoveLemmas.{quotas_before_le, owner_among_before, owner_among_own}
use Rattle.cut_core.specs.Agreements.{Agreement}
use Rattle.cut_core.specs.Fold.{with_round, opened, after_remove}
use Rattle.cut_core.specs.Map.{rest_of, granted_layout, map_of, mapped}
use Rattle.cut_core.specs.Soundness.{IsSound}

-- the rest of a window is its next round, and what is left then
pub rest_round : (a : Agreement) → a.rounds < a.current.rounds
    → rest_of a ≡ round_of a.current.spots a.rounds ++ rounds_from a.current.spots (a.rounds + 1) (a.current.rounds - (a.rounds + 1))
rest_round a short =
    let left : a.current.rounds - a.rounds ≡ suc (a.current.rounds - (a.rounds + 1)) = omega arith in
    ap (rounds_from a.current.spots a.rounds) left
    ∙ ap (λ n. round_of a.current.spots a.rounds ++ rounds_from a.current.spots n (a.current.rounds - (a.rounds + 1))) (sym (add-one a.rounds))

-- a round more moves owners from the rest to the covered ones
pub map_round : (a : Agreement) → a.rounds < a.current.rounds → map_of (with_round a) ≡ map_of a
map_round a short =
    let round = round_of a.current.spots a.rounds in
    let left = rounds_from a.current.spots (a.rounds + 1) (a.current.rounds - (a.rounds + 1)) in
    let granted = granted_layout a.granted in
    append_assoc a.covered round (left ++ granted)
    ∙ ap (λ t. a.covered ++ t) (sym (append_assoc round left granted))
    ∙ ap (λ t. a.covered ++ (t ++ granted)) (sym (rest_round a short))

-- opening the granted window leaves the map
pub map_opened : (a : Agreement) (w : Window) → a.rounds + 1 ≡ a.current.rounds → a.granted ≡ Some w → map_of (opened (with_round a) w) ≡ map_of a
map_opened a w last granted =
    let round = round_of a.current.spots a.rounds in
    let all : w.rounds - 0 ≡ w.rounds = omega arith in
    let none : a.current.rounds - (a.rounds + 1) ≡ zero = omega arith in
    let whole : rest_of a ≡ round =
    rest_round a (omega arith) ∙ ap (λ n. round ++ rounds_from a.current.spots (a.rounds + 1) n) none ∙ append-nil round in
    ap (λ t. (a.covered ++ round) ++ t) (append-nil (rounds_from w.spots 0 (w.rounds - 0)) ∙ ap (rounds_from w.spots 0) all)
    ∙ append_assoc a.covered round (layout_of w)
    ∙ ap (λ t. a.covered ++ (t ++ layout_of w)) (sym whole)
    ∙ ap (λ g. a.covered ++ (rest_of a ++ granted_layout g)) (sym granted)

-- a grant only adds to the map
pub map_table : (a : Agreement) (rounds : ℕ) (w : Window) → a.granted ≡ None → map_of (record a { granted = Some w }) ≡ map_of a ++ layout_of w
map_table a rounds w none =
    let empty : rest_of a ++ granted_layout a.granted ≡ rest_of a = ap (λ g. rest_of a ++ granted_layout g) none ∙ append-nil (rest_of a) in
    sym (append_assoc a.covered (rest_of a) (layout_of w)) ∙ ap (λ t. (a.covered ++ t) ++ layout_of w) (sym empty)

-- the first places of the rest of a window
first_places : (a : Agreement) (after : List Owner) (at : ℕ) → a.rounds < a.current.rounds → at < width_of a.current
    → slice_get (a.covered ++ (rest_of a ++ after)) (length a.covered + at) ≡ owner_among a.current.spots a.rounds at
first_places a after at short below =
    let width = width_of a.current in
    let left : 0 < a.current.rounds - a.rounds = omega arith in
    let size = length_rounds_from a.current.spots a.rounds (a.current.rounds - a.rounds) in
    let some : 1 * width ≤ (a.current.rounds - a.rounds) * width = mul-le 1 width (a.current.rounds - a.rounds) width left (omega arith) in
    let within : at < length (rest_of a) = omega arith in
    let index : at ≡ 0 * width + at = omega arith in
    let round : a.rounds + 0 ≡ a.rounds = omega arith in
    slice_get_append_right a.covered (rest_of a ++ after) (length a.covered) at refl
    ∙ slice_get_append_left (rest_of a) after at within
    ∙ ap (slice_get (rest_of a)) index
    ∙ slice_get_rounds_from a.current.spots a.rounds (a.current.rounds - a.rounds) 0 at left below
    ∙ ap (λ n. owner_among a.current.spots n at) round

-- a removal leaves the map below its first position
pub map_remove : (a : Agreement) (shard p : ℕ) → IsSound a → has_row shard a.current.spots ≡ true → p < first_failed_of a.current a.rounds shard
    → mapped (after_remove a shard) p ≡ mapped a p
map_remove a shard p is row below =
    let b = after_remove a shard in
    elim (cases_lt p (length a.covered)) [
      | inl early ↦
          slice_get_append_left a.covered (rest_of b ++ []) p early ∙ sym (slice_get_append_left a.covered (rest_of a ++ granted_layout a.granted) p early)
      | inr late ↦
          let at = p - length a.covered in
          let split : p ≡ length a.covered + at = omega arith in
          let before : at < quotas_before (rows_of a.current.spots) shard = omega (arith, is.covered) in
          let own = owner_among_own a.current.spots a.rounds shard is.window.table.within row in
          let others = quotas_before_le a.current.spots a.rounds shard row in
          ap (slice_get (map_of b)) split
          ∙ first_places b [] at is.window.some (omega arith)
          ∙ sym (owner_among_before a.current.spots a.rounds shard at before)
          ∙ sym (first_places a (granted_layout a.granted) at is.short (omega (arith, own.0)))
          ∙ ap (slice_get (map_of a)) (sym split)
    ]
