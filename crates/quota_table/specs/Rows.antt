-- Rows within the limits, and what every table keeps.
use Rattle.std.specs.Prelude.{ℕ, ◌≤◌, ◌&&◌, ◌==◌, Bool, true, not, nat_lt, nat_le, List, [], ◌∷◌, length, IsTrue, nat_eq}
use Rattle.std.specs.Ordering.{on, eq_of_both}
use Rattle.std.specs.Cmp.Lexicographic.{pointwise}
use Rattle.std.specs.List.{list_any, list_all}
use Rattle.quota_table.specs.declared.rows.Row.{Row}

-- one of the rows is this shard's
abbrev pub has_shard : ℕ → List Row → Bool
has_shard shard rows = list_any (λ r. r.shard == shard) rows

-- a row within the limits: shard 0 to 5, quota 1 to 64
abbrev pub is_row : Row → Bool
is_row r = nat_lt r.shard 6 && (nat_lt 0 r.quota && nat_le r.quota 64)

-- no shard stands in two rows
abbrev pub is_distinct : List Row → Bool
is_distinct [] = true
is_distinct (r ∷ rs) = not (has_shard r.shard rs) && is_distinct rs

-- the rows of a table: 1 to 6 of them, each within the limits, each shard once
pub record IsTable (rows : List Row) : Type 0 where
  pub some : 1 ≤ length rows
  pub few : length rows ≤ 6
  pub within : IsTrue (list_all is_row rows)
  pub distinct : IsTrue (is_distinct rows)

-- equal rows, one by one
abbrev pub rows_eq : List Row → List Row → Bool
rows_eq = pointwise (eq_of_both (on (λ (r : Row). r.shard) nat_eq) (on (λ (r : Row). r.quota) nat_eq))
