-- A removal moves nothing below its first failed position, and moves that one.
use Rattle.std.proofs.Common.{◌≡◌, ◌≢◌, ℕ, ◌+◌, ◌-◌, ◌*◌, ◌<◌, ◌≤◌, ◌==◌, ◌||◌, true, false, List, [], ◌∷◌, Option, Some, sym, ap, ◌∙◌, inl, inr, arith}
use Rattle.std.specs.List.{list_all}
use Rattle.std.proofs.lemmas.Bool.{cases_lt, cases_Bool, cond-true, cond-false, lt-ltb, le-ltb, eqb-true, both_ways}
use Rattle.quota_table.specs.Rows.{is_row}
use Rattle.quota_table.specs.Tables.{quotas_of, quotas_before}
use Rattle.quota_table.proofs.TableLemmas.{row_bounds}
use Rattle.fix_ante.specs.declared.spots.Spot.{Spot}
use Rattle.fix_ante.specs.declared.spots.Owner.{Owner}
use Rattle.fix_ante.specs.Windows.{Window, IsWindow, row_of, rows_of, has_row, width_of, spots_without, without_of}
use Rattle.fix_ante.specs.Layout.{owner_of}
use Rattle.fix_ante.specs.Positions.{owner_among}
use Rattle.fix_ante.specs.Moves.{owner_after, IsFirstMoved, first_failed_of}
use Rattle.fix_ante.proofs.PositionLemmas.{owner_among_here, owner_among_past, owner_of_round, owner_of_has_shard}
use Rattle.fix_ante.proofs.Successors.{spots_without_other, left_spots_without}

quotas_before_here : (s : Spot) (ss : List Spot) (shard : ℕ) → (s.shard == shard) ≡ true → quotas_before (rows_of (s ∷ ss)) shard ≡ 0
quotas_before_here s ss shard same = cond-true _ _ _ same

quotas_before_later : (s : Spot) (ss : List Spot) (shard : ℕ) → (s.shard == shard) ≡ false
    → quotas_before (rows_of (s ∷ ss)) shard ≡ s.quota + quotas_before (rows_of ss) shard
quotas_before_later s ss shard other = cond-false _ _ _ other

-- a shard that the first row isn't is a later row's
later_row : (s : Spot) (ss : List Spot) (shard : ℕ) → (s.shard == shard) ≡ false → has_row shard (s ∷ ss) ≡ true → has_row shard ss ≡ true
later_row s ss shard other h = sym (ap (λ t. t || has_row shard ss) other) ∙ h

-- the rows before a shard's stay as they are without it
pub quotas_before_le : (spots : List Spot) (covered shard : ℕ) → has_row shard spots ≡ true
    → quotas_before (rows_of spots) shard ≤ quotas_of (rows_of (spots_without spots covered shard))
quotas_before_le [] covered shard h = omega arith
quotas_before_le (s ∷ ss) covered shard h =
    elim (cases_Bool (s.shard == shard)) [
      | inl same ↦ omega (arith, quotas_before_here s ss shard same)
      | inr other ↦
          let later = later_row s ss shard other h in
          let rest = quotas_before_le ss covered shard later in
          rw (quotas_before_later s ss shard other, spots_without_other s ss covered shard other) (omega arith)
    ]

-- a place before the shard's rows has one owner in a round, and in the first round without the shard
pub owner_among_before : (spots : List Spot) (covered shard at : ℕ) → at < quotas_before (rows_of spots) shard
    → owner_among spots covered at ≡ owner_among (spots_without spots covered shard) 0 at
owner_among_before [] covered shard at h = absurd (omega arith)
owner_among_before (s ∷ ss) covered shard at h =
    elim (cases_Bool (s.shard == shard)) [
      | inl same ↦ absurd (omega (arith, quotas_before_here s ss shard same))
      | inr other ↦
          let before = quotas_before_later s ss shard other in
          let moved : Spot = record { shard = s.shard; quota = s.quota; start = s.start + covered * s.quota } in
          let rest = spots_without ss covered shard in
          let is : spots_without (s ∷ ss) covered shard ≡ moved ∷ rest = spots_without_other s ss covered shard other in
          let owner : ℕ → Option Owner = λ n. Some (record { shard = s.shard; local = n }) in
          let local : s.start + covered * s.quota + at ≡ s.start + covered * s.quota + 0 * s.quota + at = omega arith in
          rw is (elim (cases_lt at s.quota) [
            | inl here ↦ owner_among_here s ss covered at here ∙ (ap owner local ∙ sym (owner_among_here moved rest 0 at here))
            | inr past ↦ owner_among_past s ss covered at past ∙ (owner_among_before ss covered shard (at - s.quota) (omega arith) ∙ sym (owner_among_past moved rest 0 at past))
          ])
    ]

-- the shard's first place in a round is in the round, and is the shard's
pub owner_among_own : (spots : List Spot) (round shard : ℕ) → list_all is_row (rows_of spots) ≡ true → has_row shard spots ≡ true
    → (quotas_before (rows_of spots) shard < quotas_of (rows_of spots)) × (local : ℕ) × (owner_among spots round (quotas_before (rows_of spots) shard) ≡ Some (record { shard = shard; local = local }))
owner_among_own [] round shard within h = absurd (cc)
owner_among_own (s ∷ ss) round shard within h =
    let bounds = row_bounds (row_of s) (rows_of ss) within in
    elim (cases_Bool (s.shard == shard)) [
      | inl same ↦
          let before = quotas_before_here s ss shard same in
          let owner : ℕ → Option Owner = λ n. Some (record { shard = n; local = s.start + round * s.quota + 0 }) in
          (omega arith, _, ap (owner_among (s ∷ ss) round) before ∙ (owner_among_here s ss round 0 (omega arith) ∙ ap owner (eqb-true s.shard shard same)))
      | inr other ↦
          let before = quotas_before_later s ss shard other in
          let later = later_row s ss shard other h in
          let rest = owner_among_own ss round shard bounds.2 later in
          let at : quotas_before (rows_of (s ∷ ss)) shard - s.quota ≡ quotas_before (rows_of ss) shard = omega arith in
          (omega (arith, rest.0), rest.1, owner_among_past s ss round (quotas_before (rows_of (s ∷ ss)) shard) (omega arith) ∙ (ap (owner_among ss round) at ∙ rest.2))
    ]

-- a shard that left has no position of the window without it
pub owner_of_without_of : (w : Window) (number covered shard local p : ℕ)
    → owner_of (without_of w number covered shard) p ≢ Some (record { shard = shard; local = local })
owner_of_without_of w number covered shard local p e =
    both_ways _ (left_spots_without w.spots covered shard) (owner_of_has_shard (without_of w number covered shard) p (record { shard = shard; local = local }) e)

-- the first failed position is the least that the removal moves
pub first_failed_of_first : (w : Window) (number covered shard : ℕ) → IsWindow w → has_row shard w.spots ≡ true → covered < w.rounds
    → IsFirstMoved (owner_of w) (owner_after w (without_of w number covered shard)) (first_failed_of w covered shard)
first_failed_of_first w number covered shard is row below =
    let after = without_of w number covered shard in
    let own = owner_among_own w.spots covered shard is.table.within row in
    let others = quotas_before_le w.spots covered shard row in
    let width = width_of w in
    let first = quotas_before (rows_of w.spots) shard in
    let mine : Owner = record { shard = shard; local = own.1 } in
    record {
      stays = λ p h. elim (cases_lt p after.base) [
        | inl early ↦ sym (cond-true _ _ _ (lt-ltb p after.base early))
        | inr late ↦
            let at = p - after.base in
            let was : p ≡ w.base + covered * width + at = omega arith in
            let is_now : p ≡ after.base + 0 * width_of after + at = omega arith in
            ap (owner_of w) was
            ∙ owner_of_round w covered at below (omega (arith, own.0))
            ∙ owner_among_before w.spots covered shard at (omega arith)
            ∙ sym (owner_of_round after 0 at (omega (arith, is.some)) (omega arith))
            ∙ ap (owner_of after) (sym is_now)
            ∙ sym (cond-false _ _ _ (le-ltb p after.base late))
      ];
      moves = λ e.
          let p = first_failed_of w covered shard in
          let was : owner_of w p ≡ Some mine = owner_of_round w covered first below own.0 ∙ own.2 in
          let now : owner_after w after p ≡ owner_of after p = cond-false _ _ _ (le-ltb p after.base (omega arith)) in
          owner_of_without_of w number covered shard own.1 p (sym now ∙ (sym e ∙ was));
    }
