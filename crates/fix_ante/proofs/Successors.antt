-- The windows that follow a window are valid, and go on with each shard's next local.
use Rattle.std.proofs.Common.{◌≡◌, ℕ, zero, suc, ◌+◌, ◌*◌, ◌^◌, ◌<◌, ◌≤◌, ◌==◌, ◌||◌, true, false, List, [], ◌∷◌, ◌++◌, length, get_or, set, take, refl, sym, ap, ◌∙◌, subst, inl, inr, arith, get_or-set_same, get_or-set_other}
use Rattle.std.specs.Prelude.{nat_le}
use Rattle.std.specs.List.{list_all}
use Rattle.std.proofs.lemmas.Bool.{cases_Bool, cases_eq, ne_eqb, cond-true, cond-false, le-leb, leb-true, eq-eqb, eqb-true, and_parts, and_from, or_from, or_parts, or_left, or_right, not-true, not_from_false}
use Rattle.std.proofs.lemmas.List.{length-map, take_more}
use Rattle.std.proofs.lemmas.Nat.{mul-le}
use Rattle.quota_table.specs.declared.rows.Row.{Row}
use Rattle.quota_table.specs.Rows.{IsTable, is_row, is_distinct, has_shard}
use Rattle.quota_table.specs.Tables.{quotas_of}
use Rattle.fix_ante.specs.declared.spots.Spot.{Spot}
use Rattle.fix_ante.specs.Windows.{Window, IsWindow, row_of, rows_of, has_row, width_of, end_of, start_after, window_after, spots_without, without_of}
use Rattle.fix_ante.proofs.WindowLemmas.{rows_of_spots_from, starts_spots_from}
use Rattle.fix_ante.proofs.PositionLemmas.{other_shard}

-- a row of the spots is one of the rows
pub has_row_rows_of : (shard : ℕ) (spots : List Spot) → has_row shard spots ≡ has_shard shard (rows_of spots)
has_row_rows_of shard [] = refl
has_row_rows_of shard (s ∷ ss) = ap (λ t. (s.shard == shard) || t) (has_row_rows_of shard ss)

-- ---- where shards go on

pub start_after_here : (s : Spot) (ss : List Spot) (rounds shard : ℕ) → (s.shard == shard) ≡ true
    → start_after (s ∷ ss) rounds shard ≡ s.start + rounds * s.quota
start_after_here s ss rounds shard same = cond-true _ _ _ same

pub start_after_later : (s : Spot) (ss : List Spot) (rounds shard : ℕ) → (s.shard == shard) ≡ false
    → start_after (s ∷ ss) rounds shard ≡ start_after ss rounds shard
start_after_later s ss rounds shard other = cond-false _ _ _ other

-- no start after some rounds is past the position after them
pub start_after_le : (base width rounds shard : ℕ) (spots : List Spot) → quotas_of (rows_of spots) ≤ width
    → list_all (λ (s : Spot). nat_le s.start base) spots ≡ true → start_after spots rounds shard ≤ base + rounds * width
start_after_le base width rounds shard [] h starts = omega arith
start_after_le base width rounds shard (s ∷ ss) h starts =
    let parts = and_parts (nat_le s.start base) (list_all (λ (s : Spot). nat_le s.start base) ss) starts in
    elim (cases_Bool (s.shard == shard)) [
      | inl same ↦
          let first = start_after_here s ss rounds shard same in
          let start = leb-true s.start base parts.0 in
          let most = mul-le rounds s.quota rounds width (omega arith) (omega arith) in
          omega arith
      | inr other ↦
          let rest : start_after ss rounds shard ≤ base + rounds * width = start_after_le base width rounds shard ss (omega arith) parts.1 in
          omega (arith, start_after_later s ss rounds shard other)
    ]

-- one row more, of a shard that no earlier row has
pub start_after_push_own : (spots : List Spot) (s : Spot) (rounds : ℕ) → has_row s.shard spots ≡ false
    → start_after (spots ++ s ∷ []) rounds s.shard ≡ s.start + rounds * s.quota
start_after_push_own [] s rounds absent = start_after_here s [] rounds s.shard (eq-eqb s.shard s.shard refl)
start_after_push_own (t ∷ ts) s rounds absent =
    let parts = or_parts _ _ absent in
    start_after_later t (ts ++ s ∷ []) rounds s.shard parts.0 ∙ start_after_push_own ts s rounds parts.1

-- and seen from another shard
pub start_after_push_other : (spots : List Spot) (s : Spot) (rounds shard : ℕ) → (s.shard == shard) ≡ false
    → start_after (spots ++ s ∷ []) rounds shard ≡ start_after spots rounds shard
start_after_push_other [] s rounds shard other = start_after_later s [] rounds shard other
start_after_push_other (t ∷ ts) s rounds shard other =
    elim (cases_Bool (t.shard == shard)) [
      | inl same ↦ start_after_here t (ts ++ s ∷ []) rounds shard same ∙ sym (start_after_here t ts rounds shard same)
      | inr later ↦ start_after_later t (ts ++ s ∷ []) rounds shard later ∙ (start_after_push_other ts s rounds shard other ∙ sym (start_after_later t ts rounds shard later))
    ]

has_shard_at : (spots : List Spot) (i : ℕ) (d : Spot) → i < length spots → has_shard (get_or spots i d).shard (rows_of spots) ≡ true
has_shard_at [] i d h = absurd (omega arith)
has_shard_at (s ∷ ss) zero d h = or_left _ _ (eq-eqb s.shard s.shard refl)
has_shard_at (s ∷ ss) (suc i) d h = or_right _ _ (has_shard_at ss i d (omega arith))

-- no row before a row has its shard
pub fresh_before : (spots : List Spot) (i : ℕ) (d : Spot) → is_distinct (rows_of spots) ≡ true → i < length spots
    → has_row (get_or spots i d).shard (take i spots) ≡ false
fresh_before [] i d distinct h = absurd (omega arith)
fresh_before (s ∷ ss) zero d distinct h = refl
fresh_before (s ∷ ss) (suc i) d distinct h =
    or_from _ _ (other_shard s ss (get_or ss i d).shard distinct (has_shard_at ss i d (omega arith))) (fresh_before ss i d ((and_parts _ _ distinct).1) (omega arith))

-- the window of a table that follows is valid
pub IsWindow_next_of : (w : Window) (number rounds : ℕ) (rows : List Row) → IsWindow w → end_of w ≤ 2 ^ 48 → 1 ≤ rounds → rounds ≤ 1024 → IsTable rows
    → IsWindow (window_after w number rounds rows)
IsWindow_next_of w number rounds rows is end some most table = record {
  base = end;
  some = some;
  most = most;
  table = subst IsTable (sym (rows_of_spots_from (start_after w.spots w.rounds) rows)) table;
  starts = starts_spots_from (start_after w.spots w.rounds) (end_of w) rows (λ shard. start_after_le w.base (width_of w) w.rounds shard w.spots (omega arith) is.starts);
}

-- ---- the rows without a shard

moved_on : ℕ → Spot → Spot
moved_on covered s = record { shard = s.shard; quota = s.quota; start = s.start + covered * s.quota }

pub spots_without_here : (s : Spot) (ss : List Spot) (covered shard : ℕ) → (s.shard == shard) ≡ true
    → spots_without (s ∷ ss) covered shard ≡ spots_without ss covered shard
spots_without_here s ss covered shard same = cond-true _ _ _ same

pub spots_without_other : (s : Spot) (ss : List Spot) (covered shard : ℕ) → (s.shard == shard) ≡ false
    → spots_without (s ∷ ss) covered shard ≡ record { shard = s.shard; quota = s.quota; start = s.start + covered * s.quota } ∷ spots_without ss covered shard
spots_without_other s ss covered shard other = cond-false _ _ _ other

-- what holds of the rows holds of those that remain
pub within_spots_without : (spots : List Spot) (covered shard : ℕ) → list_all is_row (rows_of spots) ≡ true
    → list_all is_row (rows_of (spots_without spots covered shard)) ≡ true
within_spots_without [] covered shard h = refl
within_spots_without (s ∷ ss) covered shard h =
    let parts = and_parts _ _ h in
    let rest = within_spots_without ss covered shard parts.1 in
    elim (cases_Bool (s.shard == shard)) [
      | inl same ↦ rw (spots_without_here s ss covered shard same) rest
      | inr other ↦ rw (spots_without_other s ss covered shard other) (and_from _ _ parts.0 rest)
    ]

pub absent_spots_without : (spots : List Spot) (covered shard other : ℕ) → has_shard other (rows_of spots) ≡ false
    → has_shard other (rows_of (spots_without spots covered shard)) ≡ false
absent_spots_without [] covered shard x h = refl
absent_spots_without (s ∷ ss) covered shard x h =
    let parts = or_parts _ _ h in
    let rest = absent_spots_without ss covered shard x parts.1 in
    elim (cases_Bool (s.shard == shard)) [
      | inl same ↦ rw (spots_without_here s ss covered shard same) rest
      | inr other ↦ rw (spots_without_other s ss covered shard other) (or_from _ _ parts.0 rest)
    ]

pub distinct_spots_without : (spots : List Spot) (covered shard : ℕ) → is_distinct (rows_of spots) ≡ true
    → is_distinct (rows_of (spots_without spots covered shard)) ≡ true
distinct_spots_without [] covered shard h = refl
distinct_spots_without (s ∷ ss) covered shard h =
    let parts = and_parts _ _ h in
    let rest = distinct_spots_without ss covered shard parts.1 in
    elim (cases_Bool (s.shard == shard)) [
      | inl same ↦ rw (spots_without_here s ss covered shard same) rest
      | inr other ↦ rw (spots_without_other s ss covered shard other) (and_from _ _ (not_from_false _ (absent_spots_without ss covered shard s.shard (not-true _ parts.0))) rest)
    ]

-- the shard that leaves is no row any more
pub left_spots_without : (spots : List Spot) (covered shard : ℕ) → has_shard shard (rows_of (spots_without spots covered shard)) ≡ false
left_spots_without [] covered shard = refl
left_spots_without (s ∷ ss) covered shard =
    let rest = left_spots_without ss covered shard in
    elim (cases_Bool (s.shard == shard)) [
      | inl same ↦ rw (spots_without_here s ss covered shard same) rest
      | inr other ↦ rw (spots_without_other s ss covered shard other) (or_from _ _ other rest)
    ]

-- no rows leave where no row is the shard's, and one row at most where rows are distinct
length_spots_without_absent : (spots : List Spot) (covered shard : ℕ) → has_shard shard (rows_of spots) ≡ false
    → length (spots_without spots covered shard) ≡ length spots
length_spots_without_absent [] covered shard h = refl
length_spots_without_absent (s ∷ ss) covered shard h =
    let parts = or_parts _ _ h in
    rw (spots_without_other s ss covered shard parts.0) (ap suc (length_spots_without_absent ss covered shard parts.1))

pub length_spots_without : (spots : List Spot) (covered shard : ℕ) → is_distinct (rows_of spots) ≡ true
    → (length (spots_without spots covered shard) ≤ length spots) × (length spots ≤ length (spots_without spots covered shard) + 1)
length_spots_without [] covered shard h = (omega arith, omega arith)
length_spots_without (s ∷ ss) covered shard h =
    let parts = and_parts _ _ h in
    let rest = length_spots_without ss covered shard parts.1 in
    elim (cases_Bool (s.shard == shard)) [
      | inl same ↦
          let absent : has_shard shard (rows_of ss) ≡ false = subst (λ n. has_shard n (rows_of ss) ≡ false) (eqb-true s.shard shard same) (not-true _ parts.0) in
          let all = length_spots_without_absent ss covered shard absent in
          rw (spots_without_here s ss covered shard same) (omega arith, omega arith)
      | inr other ↦ rw (spots_without_other s ss covered shard other) (omega arith, omega arith)
    ]

pub starts_spots_without : (base width covered shard : ℕ) (spots : List Spot) → quotas_of (rows_of spots) ≤ width
    → list_all (λ (s : Spot). nat_le s.start base) spots ≡ true
    → list_all (λ (s : Spot). nat_le s.start (base + covered * width)) (spots_without spots covered shard) ≡ true
starts_spots_without base width covered shard [] h starts = refl
starts_spots_without base width covered shard (s ∷ ss) h starts =
    let parts = and_parts (nat_le s.start base) (list_all (λ (s : Spot). nat_le s.start base) ss) starts in
    let rest = starts_spots_without base width covered shard ss (omega arith) parts.1 in
    let start = leb-true s.start base parts.0 in
    let most = mul-le covered s.quota covered width (omega arith) (omega arith) in
    elim (cases_Bool (s.shard == shard)) [
      | inl same ↦ rw (spots_without_here s ss covered shard same) rest
      | inr other ↦ rw (spots_without_other s ss covered shard other) (and_from _ _ (le-leb _ _ (omega arith)) rest)
    ]

-- the window that a removal leaves is valid, where another row remains
pub IsWindow_without_of : (w : Window) (number covered shard : ℕ) → IsWindow w → end_of w ≤ 2 ^ 48 → 2 ≤ length w.spots → covered < w.rounds
    → IsWindow (without_of w number covered shard)
IsWindow_without_of w number covered shard is end another below =
    let sizes = length_spots_without w.spots covered shard is.table.distinct in
    let before = length-map w.spots row_of in
    let after = length-map (spots_without w.spots covered shard) row_of in
    record {
      base = omega (arith, mul-le covered (width_of w) w.rounds (width_of w) (omega arith) (omega arith));
      some = is.some;
      most = is.most;
      table = record {
        some = omega arith;
        few = omega (arith, is.table.few);
        within = within_spots_without w.spots covered shard is.table.within;
        distinct = distinct_spots_without w.spots covered shard is.table.distinct;
      };
      starts = starts_spots_without w.base (width_of w) covered shard w.spots (omega arith) is.starts;
    }

-- a table of starts by shard, with one row more written into it
pub starts_more : (spots : List Spot) (starts : List ℕ) (i rounds : ℕ) (d : Spot) → is_distinct (rows_of spots) ≡ true → i < length spots → length starts ≡ 6
    → (get_or spots i d).shard < 6 → ((shard : ℕ) → shard < 6 → get_or starts shard 0 ≡ start_after (take i spots) rounds shard) → (shard : ℕ) → shard < 6
    → get_or (set starts (get_or spots i d).shard ((get_or spots i d).start + rounds * (get_or spots i d).quota)) shard 0 ≡ start_after (take (i + 1) spots) rounds shard
starts_more spots starts i rounds d distinct h len within before shard below =
    let s = get_or spots i d in
    let value = s.start + rounds * s.quota in
    let more : take (i + 1) spots ≡ take i spots ++ s ∷ [] = take_more spots i d h in
    elim (cases_eq shard s.shard) [
      | inl same ↦
          ap (λ n. get_or (set starts s.shard value) n 0) same
          ∙ get_or-set_same starts s.shard value 0 (omega arith)
          ∙ sym (start_after_push_own (take i spots) s rounds (fresh_before spots i d distinct h))
          ∙ ap (λ xs. start_after xs rounds s.shard) (sym more)
          ∙ ap (start_after (take (i + 1) spots) rounds) (sym same)
      | inr other ↦
          get_or-set_other starts s.shard shard value 0 other
          ∙ before shard below
          ∙ sym (start_after_push_other (take i spots) s rounds shard (ne_eqb s.shard shard (λ e. other (sym e))))
          ∙ ap (λ xs. start_after xs rounds shard) (sym more)
    ]
