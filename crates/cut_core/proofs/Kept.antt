-- What every list of entries leaves holds of the first window, and stays with a round more and with a grant.
use Rattle.std.proofs.Common.{◌≡◌, ℕ, ◌+◌, ◌*◌, ◌<◌, ◌≤◌, ◌==◌, true, false, not, List, [], ◌∷◌, length, Option, Some, None, refl, sym, ap, ◌∙◌, inl, inr, arith, add-zero, length-append}
use Rattle.std.specs.List.{list_any, range_with_len}
use Rattle.std.proofs.lemmas.Bool.{cases_Bool, eqb-true, or_parts, or_from, not_from_false, not_from_true, both_ways}
use Rattle.std.proofs.lemmas.List.FromFn.{length-range_with_len}
use Rattle.std.proofs.lemmas.Nat.{mul-le}
use Rattle.quota_table.specs.declared.rows.Row.{Row}
use Rattle.quota_table.specs.Rows.{IsTable, has_shard}
use Rattle.quota_table.proofs.TableLemmas.{quotas_of_table}
use Rattle.fix_ante.specs.declared.spots.Spot.{Spot}
use Rattle.fix_ante.specs.Windows.{Window, IsWindow, rows_of, has_row, width_of, end_of, window_after, spots_from, start_after, first_of, spots_without}
use Rattle.fix_ante.specs.Layout.{round_of}
use Rattle.fix_ante.specs.Locals.{locals_of, quota_of}
use Rattle.fix_ante.proofs.WindowLemmas.{rows_of_spots_from, IsWindow_first_of}
use Rattle.fix_ante.proofs.LayoutLemmas.{length_round_of}
use Rattle.fix_ante.proofs.Successors.{has_row_rows_of, left_spots_without, absent_spots_without, IsWindow_next_of, IsWindow_without_of}
use Rattle.fix_ante.proofs.LocalLemmas.{locals_of_append, locals_of_round_of, start_after_add, start_after_spots_from, start_after_spots_without}
use Rattle.cut_core.specs.Agreements.{Agreement, Gone, agreement_from, count_of, is_gone}
use Rattle.cut_core.specs.Soundness.{IsGrant, MayBeGrant, IsSound}
use Rattle.cut_core.specs.Fold.{with_round, dropped_rows, opened, after_table, after_remove}
use Rattle.cut_core.proofs.Counts.{quota_of_absent, start_after_absent, dense_more, dense_none, gone_append, kept_row, undropped_row}

-- a gone shard is no row
pub gone_row : (a : Agreement) → ((shard : ℕ) → has_row shard a.current.spots ≡ true → is_gone a shard ≡ false) → (shard : ℕ) → is_gone a shard ≡ true
    → has_row shard a.current.spots ≡ false
gone_row a rows shard gone =
    elim (cases_Bool (has_row shard a.current.spots)) [
      | inl row ↦ absurd (both_ways _ (rows shard row) gone)
      | inr none ↦ none
    ]

-- the size of a window
pub end_of_window : (w : Window) → IsWindow w → end_of w ≤ w.base + 393216
end_of_window w is =
    let width = quotas_of_table (rows_of w.spots) is.table in
    let most = mul-le w.rounds (width_of w) 1024 384 is.most width.1 in
    omega arith

-- the first window
pub IsSound_first : (rounds : ℕ) (rows : List Row) → 1 ≤ rounds → rounds ≤ 1024 → IsTable rows → IsSound (agreement_from (first_of rounds rows))
IsSound_first rounds rows some most table = record {
  window = IsWindow_first_of rounds rows some most table;
  short = some;
  covered = omega arith;
  starts = λ shard _.
      let spots = spots_from (λ _. 0) rows in
      elim (cases_Bool (has_row shard spots)) [
        | inl row ↦
            let has : has_shard shard rows ≡ true = sym (ap (has_shard shard) (rows_of_spots_from (λ _. 0) rows)) ∙ (sym (has_row_rows_of shard spots) ∙ row) in
            start_after_spots_from (λ _. 0) rows 0 shard has ∙ omega arith
        | inr none ↦ start_after_absent spots 0 shard none
      ];
  dense = λ shard. refl;
  rows = λ shard _. refl;
  grant = tt;
  reach = omega arith;
}

-- ---- a round more

pub count_of_round : (a : Agreement) (shard : ℕ) → IsSound a → count_of shard (with_round a).covered ≡ count_of shard a.covered + quota_of a.current.spots shard
count_of_round a shard is =
    let round = round_of a.current.spots a.rounds in
    ap length (locals_of_append shard a.covered round)
    ∙ length-append (locals_of shard a.covered) (locals_of shard round)
    ∙ ap (λ n. count_of shard a.covered + n) (ap length (locals_of_round_of a.current.spots a.rounds shard is.window.table.distinct) ∙ length-range_with_len (start_after a.current.spots a.rounds shard) (quota_of a.current.spots shard))

pub covered_round : (a : Agreement) → IsSound a → length (with_round a).covered ≡ a.current.base + (a.rounds + 1) * width_of a.current
covered_round a is =
    let round = round_of a.current.spots a.rounds in
    omega (arith, length-append a.covered round, length_round_of a.current.spots a.rounds, is.covered)

pub starts_round : (a : Agreement) (shard : ℕ) → IsSound a → is_gone a shard ≡ false
    → start_after a.current.spots (a.rounds + 1) shard ≡ count_of shard (with_round a).covered
starts_round a shard is stays =
    let before = is.starts shard stays in
    let more = start_after_add a.current.spots a.rounds 1 shard in
    let count = count_of_round a shard is in
    omega arith

pub dense_round : (a : Agreement) (shard : ℕ) → IsSound a → locals_of shard (with_round a).covered ≡ range_with_len 0 (count_of shard (with_round a).covered)
dense_round a shard is =
    let have = locals_of shard a.covered in
    let next = locals_of shard (round_of a.current.spots a.rounds) in
    let joined = locals_of_append shard a.covered (round_of a.current.spots a.rounds) in
    let numbers = locals_of_round_of a.current.spots a.rounds shard is.window.table.distinct in
    elim (cases_Bool (is_gone a shard)) [
      | inl gone ↦
          let absent = quota_of_absent a.current.spots shard (gone_row a is.rows shard gone) in
          joined ∙ dense_none have next (is.dense shard) (numbers ∙ ap (range_with_len (start_after a.current.spots a.rounds shard)) absent) ∙ ap (λ t. range_with_len 0 (length t)) (sym joined)
      | inr stays ↦
          joined ∙ dense_more have next (start_after a.current.spots a.rounds shard) (quota_of a.current.spots shard) (is.dense shard) numbers (is.starts shard stays) ∙ ap (λ t. range_with_len 0 (length t)) (sym joined)
    ]

-- a grant stays one while the current window and the gone shards stay
pub grant_stays : (a b : Agreement) (g : Option Window) → b.current ≡ a.current → b.gone ≡ a.gone → MayBeGrant a g → MayBeGrant b g
grant_stays a b None same gone h = tt
grant_stays a b (Some w) same gone h = record {
  window = h.window;
  base = h.base ∙ ap end_of (sym same);
  starts = λ shard row. h.starts shard row ∙ ap (λ (c : Window). start_after c.spots c.rounds shard) (sym same);
  stays = λ shard row. ap (list_any (λ (g : Gone). g.shard == shard)) gone ∙ h.stays shard row;
}

-- a round that isn't the last
pub IsSound_round : (a : Agreement) → IsSound a → a.rounds + 1 < a.current.rounds → IsSound (record (with_round a) { slots = a.slots + 1 })
IsSound_round a is below = record {
  window = is.window;
  short = below;
  covered = covered_round a is;
  starts = λ shard stays. starts_round a shard is stays;
  dense = λ shard. dense_round a shard is;
  rows = is.rows;
  grant = grant_stays a (record (with_round a) { slots = a.slots + 1 }) a.granted refl refl is.grant;
  reach = omega (arith, is.reach);
}

-- ---- the granted window is opened

-- a row of the window before that is none of the opened one is dropped
dropped : (a : Agreement) (w : Window) (shard : ℕ) → has_row shard w.spots ≡ false → has_row shard a.current.spots ≡ true
    → list_any (λ (g : Gone). g.shard == shard) (dropped_rows a w) ≡ true
dropped a w shard none row =
    kept_row (λ (s : Spot). not (has_row s.shard w.spots)) (λ (s : Spot). count_of s.shard a.covered) a.current.spots shard
    (λ s same. ap (λ n. not (has_row n w.spots)) (eqb-true s.shard shard same) ∙ not_from_false _ none) row

-- a row of the opened window is not
undropped : (a : Agreement) (w : Window) (shard : ℕ) → has_row shard w.spots ≡ true → list_any (λ (g : Gone). g.shard == shard) (dropped_rows a w) ≡ false
undropped a w shard row =
    undropped_row (λ (s : Spot). not (has_row s.shard w.spots)) (λ (s : Spot). count_of s.shard a.covered) a.current.spots shard
    (λ s same. ap (λ n. not (has_row n w.spots)) (eqb-true s.shard shard same) ∙ not_from_true _ row)

-- where each shard goes on in the opened window
starts_opened : (a : Agreement) (w : Window) (shard : ℕ) → IsSound a → IsGrant a w → a.rounds + 1 ≡ a.current.rounds
    → is_gone (opened (with_round a) w) shard ≡ false → start_after w.spots 0 shard ≡ count_of shard (with_round a).covered
starts_opened a w shard is grant last stays =
    let b = with_round a in
    let parts = or_parts _ _ (sym (gone_append shard a.gone (dropped_rows b w)) ∙ stays) in
    let before : start_after a.current.spots (a.rounds + 1) shard ≡ count_of shard b.covered = starts_round a shard is parts.0 in
    elim (cases_Bool (has_row shard w.spots)) [
      | inl row ↦ grant.starts shard row ∙ (ap (λ n. start_after a.current.spots n shard) (sym last) ∙ before)
      | inr none ↦
          elim (cases_Bool (has_row shard a.current.spots)) [
            | inl row ↦ absurd (both_ways _ parts.1 (dropped b w shard none row))
            | inr absent ↦ start_after_absent w.spots 0 shard none ∙ (sym (start_after_absent a.current.spots (a.rounds + 1) shard absent) ∙ before)
          ]
    ]

pub IsSound_opened : (a : Agreement) (w : Window) → IsSound a → IsGrant a w → a.rounds + 1 ≡ a.current.rounds
    → IsSound (record (opened (with_round a) w) { slots = a.slots + 1 })
IsSound_opened a w is grant last = record {
  window = grant.window;
  short = grant.window.some;
  covered =
      let covered : length (with_round a).covered ≡ a.current.base + (a.rounds + 1) * width_of a.current = covered_round a is in
      covered ∙ (ap (λ n. a.current.base + n * width_of a.current) last ∙ (sym grant.base ∙ omega arith));
  starts = λ shard stays. starts_opened a w shard is grant last stays;
  dense = λ shard. dense_round a shard is;
  rows = λ shard row. gone_append shard a.gone (dropped_rows (with_round a) w) ∙ or_from _ _ (grant.stays shard row) (undropped (with_round a) w shard row);
  grant = tt;
  reach = omega (arith, grant.base, is.reach, end_of_window a.current is.window);
}

-- ---- a window is granted

-- where the granted window and the count of entries alone are others
IsSound_granted : (a : Agreement) (slots : ℕ) (granted : Option Window) → IsSound a → a.slots ≤ slots
    → MayBeGrant (record a { slots = slots; granted = granted }) granted → IsSound (record a { slots = slots; granted = granted })
IsSound_granted a slots granted is le grant = record {
  window = is.window;
  short = is.short;
  covered = is.covered;
  starts = is.starts;
  dense = is.dense;
  rows = is.rows;
  grant = grant;
  reach = omega (arith, is.reach, le);
}

pub IsSound_table : (a : Agreement) (rounds : ℕ) (rows : List Row) → IsSound a → a.slots < 1000000 → 1 ≤ rounds → rounds ≤ 1024 → IsTable rows
    → ((shard : ℕ) → has_shard shard rows ≡ true → is_gone a shard ≡ false) → IsSound (record (after_table a rounds rows) { slots = a.slots + 1 })
IsSound_table a rounds rows is below some most table stays =
    let start = start_after a.current.spots a.current.rounds in
    let spots = spots_from start rows in
    let has : (shard : ℕ) → has_row shard spots ≡ true → has_shard shard rows ≡ true = λ shard row. sym (ap (has_shard shard) (rows_of_spots_from start rows)) ∙ (sym (has_row_rows_of shard spots) ∙ row) in
    IsSound_granted a (a.slots + 1) (Some (window_after a.current (a.slots + 1) rounds rows)) is (omega arith)
    (record {
      window = IsWindow_next_of a.current (a.slots + 1) rounds rows is.window (omega (arith, is.reach, end_of_window a.current is.window)) some most table;
      base = refl;
      starts = λ shard row. start_after_spots_from start rows 0 shard (has shard row) ∙ omega arith;
      stays = λ shard row. stays shard (has shard row);
    })

-- ---- a shard is removed

-- a row that remains was a row, and is another shard's
pub remaining_row : (spots : List Spot) (covered gone shard : ℕ) → has_row shard (spots_without spots covered gone) ≡ true
    → (has_row shard spots ≡ true) × ((gone == shard) ≡ false)
remaining_row spots covered gone shard row =
    let remains : has_shard shard (rows_of (spots_without spots covered gone)) ≡ true = sym (has_row_rows_of shard (spots_without spots covered gone)) ∙ row in (
      elim (cases_Bool (has_shard shard (rows_of spots))) [
        | inl was ↦ has_row_rows_of shard spots ∙ was
        | inr none ↦ absurd (both_ways _ (absent_spots_without spots covered gone shard none) remains)
      ],
      elim (cases_Bool (gone == shard)) [
        | inl same ↦ absurd (both_ways _ (ap (λ n. has_shard n (rows_of (spots_without spots covered gone))) (sym (eqb-true gone shard same)) ∙ left_spots_without spots covered gone) remains)
        | inr apart ↦ apart
      ],
    )

pub IsSound_remove : (a : Agreement) (shard : ℕ) → IsSound a → a.slots < 1000000 → has_row shard a.current.spots ≡ true → 2 ≤ length a.current.spots
    → IsSound (record (after_remove a shard) { slots = a.slots + 1 })
IsSound_remove a shard is below row another =
    let end = end_of_window a.current is.window in
    let covered = mul-le a.rounds (width_of a.current) a.current.rounds (width_of a.current) (omega (arith, is.short)) (omega arith) in
    record {
      window = IsWindow_without_of a.current (a.slots + 1) a.rounds shard is.window (omega (arith, is.reach)) another is.short;
      short = is.window.some;
      covered = is.covered ∙ omega arith;
      starts = λ other stays.
          let parts = or_parts _ _ (sym (gone_append other a.gone (record { shard = shard; end = count_of shard a.covered } ∷ [])) ∙ stays) in
          let apart : (shard == other) ≡ false = (or_parts _ _ parts.1).0 in
          let now : start_after a.current.spots (a.rounds + 0) other ≡ start_after a.current.spots a.rounds other = ap (λ n. start_after a.current.spots n other) (add-zero a.rounds) in
          (start_after_spots_without a.current.spots a.rounds shard 0 other apart).0 ∙ (now ∙ is.starts other parts.0);
      dense = is.dense;
      rows = λ other remains.
          let was = remaining_row a.current.spots a.rounds shard other remains in
          gone_append other a.gone (record { shard = shard; end = count_of shard a.covered } ∷ []) ∙ or_from _ _ (is.rows other was.0) (or_from _ _ was.1 refl);
      grant = tt;
      reach = omega (arith, is.reach);
    }

-- nothing but the count changes
pub IsSound_passed : (a : Agreement) → IsSound a → IsSound (record a { slots = a.slots + 1 })
IsSound_passed a is =
    IsSound_granted a (a.slots + 1) a.granted is (omega arith) (grant_stays a (record a { slots = a.slots + 1 }) a.granted refl refl is.grant)
