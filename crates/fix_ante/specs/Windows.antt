-- Windows, their rows with the starts, and the windows that follow.
use Rattle.std.specs.Prelude.{ℕ, ◌+◌, ◌*◌, ◌^◌, ◌<◌, ◌≤◌, ◌==◌, Bool, nat_le, nat_eq, if◌then◌else◌, List, [], ◌∷◌, map, IsTrue}
use Rattle.std.specs.List.{list_any, list_all}
use Rattle.std.specs.Ordering.{on, eq_of_both}
use Rattle.std.specs.Cmp.Lexicographic.{pointwise}
use Rattle.quota_table.specs.declared.rows.Row.{Row}
use Rattle.quota_table.specs.Rows.{IsTable}
use Rattle.quota_table.specs.Tables.{quotas_of}
use Rattle.fix_ante.specs.declared.spots.Spot.{Spot}

-- a window: its rounds give positions to the rows, from its base on
pub record Window : Type 0 where
  pub number : ℕ
  pub base : ℕ
  pub rounds : ℕ
  pub spots : List Spot

-- a window's row, without its start
abbrev pub row_of : Spot → Row
row_of s = record { shard = s.shard; quota = s.quota }

abbrev pub rows_of : List Spot → List Row
rows_of = map row_of

-- one of the rows is this shard's
abbrev pub has_row : ℕ → List Spot → Bool
has_row shard = list_any (λ (s : Spot). s.shard == shard)

-- positions in a round
abbrev pub width_of : Window → ℕ
width_of w = quotas_of (rows_of w.spots)

-- one past the last position of the first rounds, and of all
abbrev pub end_after : Window → ℕ → ℕ
end_after w rounds = w.base + rounds * width_of w

abbrev pub end_of : Window → ℕ
end_of w = end_after w w.rounds

-- what every window keeps: a base of at most 2^48, 1 to 1,024 rounds, a valid table, and no start past the base
pub record IsWindow (w : Window) : Type 0 where
  pub base : w.base ≤ 2 ^ 48
  pub some : 1 ≤ w.rounds
  pub most : w.rounds ≤ 1024
  pub table : IsTable (rows_of w.spots)
  pub starts : IsTrue (list_all (λ (s : Spot). nat_le s.start w.base) w.spots)

-- a row of a window with this base
pub record IsSpot (base : ℕ) (s : Spot) : Type 0 where
  pub shard : s.shard < 6
  pub some : 1 ≤ s.quota
  pub most : s.quota ≤ 64
  pub start : s.start ≤ base

-- the rows, each with the start of its shard
abbrev pub spots_from : (ℕ → ℕ) → List Row → List Spot
spots_from start = map (λ (r : Row). record { shard = r.shard; quota = r.quota; start = start r.shard })

-- the first of all windows, of a table
abbrev pub first_of : ℕ → List Row → Window
first_of rounds rows = record {
  number = 0;
  base = 0;
  rounds = rounds;
  spots = spots_from (λ _. 0) rows;
}

-- a row's first local of a round, and one past its last
abbrev pub round_begin : Spot → ℕ → ℕ
round_begin s round = s.start + round * s.quota

abbrev pub round_end : Spot → ℕ → ℕ
round_end s round = round_begin s (round + 1)

-- where a shard's locals go on after these rounds: a row's after its own, and from 0 where no row is the shard's
abbrev pub start_after : List Spot → ℕ → ℕ → ℕ
start_after [] rounds shard = 0
start_after (s ∷ ss) rounds shard = if s.shard == shard then round_begin s rounds else start_after ss rounds shard

-- the window of a table that follows all rounds of this one
abbrev pub window_after : Window → ℕ → ℕ → List Row → Window
window_after w number rounds rows = record {
  number = number;
  base = end_of w;
  rounds = rounds;
  spots = spots_from (start_after w.spots w.rounds) rows;
}

-- the rows but the shard's, going on after these rounds
abbrev pub spots_without : List Spot → ℕ → ℕ → List Spot
spots_without [] covered shard = []
spots_without (s ∷ ss) covered shard =
    if s.shard == shard then spots_without ss covered shard
    else record { shard = s.shard; quota = s.quota; start = round_begin s covered } ∷ spots_without ss covered shard

-- the window that follows the first rounds of this one, without a shard
abbrev pub without_of : Window → ℕ → ℕ → ℕ → Window
without_of w number covered shard = record {
  number = number;
  base = end_after w covered;
  rounds = w.rounds;
  spots = spots_without w.spots covered shard;
}

-- equal rows, one by one, and equal windows
abbrev pub spots_eq : List Spot → List Spot → Bool
spots_eq = pointwise (eq_of_both (on (λ (s : Spot). s.shard) nat_eq) (eq_of_both (on (λ (s : Spot). s.quota) nat_eq) (on (λ (s : Spot). s.start) nat_eq)))

abbrev pub window_eq : Window → Window → Bool
window_eq = eq_of_both (on (λ (w : Window). w.number) nat_eq) (eq_of_both (on (λ (w : Window). w.base) nat_eq) (eq_of_both (on (λ (w : Window). w.rounds) nat_eq) (on (λ (w : Window). w.spots) spots_eq)))
