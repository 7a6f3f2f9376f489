-- The rows of a window within their limits.
use Rattle.std.proofs.Common.{◌≡◌, ℕ, ◌<◌, ◌≤◌, true, List, [], ◌∷◌, refl, sym, ap, subst, arith}
use Rattle.std.specs.Prelude.{nat_le}
use Rattle.std.specs.List.{list_all, All}
use Rattle.std.proofs.lemmas.List.Elements.{All-nil, All-cons}
use Rattle.std.proofs.lemmas.Bool.Decides.{nat_tests}
use Rattle.quota_table.specs.declared.rows.Row.{Row}
use Rattle.quota_table.specs.Rows.{IsTable, is_row}
use Rattle.fix_ante.specs.declared.spots.Spot.{Spot}
use Rattle.fix_ante.specs.Windows.{Window, IsWindow, IsSpot, rows_of, spots_from, first_of}

-- giving the rows starts leaves the rows
pub rows_of_spots_from : (start : ℕ → ℕ) (rows : List Row) → rows_of (spots_from start rows) ≡ rows
rows_of_spots_from start [] = refl
rows_of_spots_from start (r ∷ rs) = ap (λ t. r ∷ t) (rows_of_spots_from start rs)

-- starts that are all within a bound are so in the rows
pub starts_spots_from : (start : ℕ → ℕ) (bound : ℕ) (rows : List Row) → ((shard : ℕ) → start shard ≤ bound)
    → list_all (λ (s : Spot). nat_le s.start bound) (spots_from start rows) ≡ true
starts_spots_from start bound [] h = refl
starts_spots_from start bound (r ∷ rs) h =
    let here = h r.shard in
    let rest = starts_spots_from start bound rs h in
    grind (arith, nat_tests)

pub IsWindow_first_of : (rounds : ℕ) (rows : List Row) → 1 ≤ rounds → rounds ≤ 1024 → IsTable rows → IsWindow (first_of rounds rows)
IsWindow_first_of rounds rows some most table = record {
  base = omega arith;
  some = some;
  most = most;
  table = subst IsTable (sym (rows_of_spots_from (λ _. 0) rows)) table;
  starts = starts_spots_from (λ _. 0) 0 rows (λ _. omega arith);
}

spot_within : (base : ℕ) (s : Spot) (ss : List Spot) → list_all is_row (rows_of (s ∷ ss)) ≡ true → list_all (λ (t : Spot). nat_le t.start base) (s ∷ ss) ≡ true
    → (s.shard < 6) × (1 ≤ s.quota) × (s.quota ≤ 64) × (s.start ≤ base) × (list_all is_row (rows_of ss) ≡ true) × (list_all (λ (t : Spot). nat_le t.start base) ss ≡ true)
spot_within base s ss within starts = grind (arith, nat_tests)

-- each row of a list within the limits is within them
pub IsSpot_each : (base : ℕ) (spots : List Spot) → list_all is_row (rows_of spots) ≡ true → list_all (λ (t : Spot). nat_le t.start base) spots ≡ true
    → All (IsSpot base) spots
IsSpot_each base [] within starts = All-nil (IsSpot base)
IsSpot_each base (s ∷ ss) within starts =
    let here = spot_within base s ss within starts in
    All-cons (IsSpot base) s ss
    (record { shard = here.0; some = here.1; most = here.2; start = here.3 })
    (IsSpot_each base ss here.4 here.5)

-- each row of a window is a row
pub IsWindow_spots : (w : Window) → IsWindow w → All (IsSpot w.base) w.spots
IsWindow_spots w is = IsSpot_each w.base w.spots is.table.within is.starts
