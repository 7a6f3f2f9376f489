-- Homes of clients, and shards of rows, are 0 to 5.
use Rattle.std.proofs.Common.{◌≡◌, ℕ, zero, suc, ◌<◌, ◌≤◌, ◌==◌, true, nat_lt, List, [], ◌∷◌, get_or, slice_get, Some, IsTrue, subst, inl, inr, arith}
use Rattle.std.specs.List.{AllByRecursion, list_all}
use Rattle.std.proofs.lemmas.Bool.{and_parts, or_cases, eqb-true, ltb-true}
use Rattle.quota_table.specs.Rows.{has_shard, is_row}
use Rattle.fix_ante.specs.declared.spots.Spot.{Spot}
use Rattle.fix_ante.specs.Windows.{row_of, rows_of}
use Rattle.msg_wire.specs.Valid.{IsValidConfig}
use Rattle.node_rules.specs.Names.{Config, Row}
use Rattle.node_rules.proofs.Lists.{all_weaken}

-- what holds of the shards of all rows holds of a shard that they have
has_shard_row : (P : ℕ → Type 0) (rows : List Row) (shard : ℕ) → AllByRecursion (λ (r : Row). P r.shard) rows → has_shard shard rows ≡ true → P shard
has_shard_row P [] shard all has = absurd (cc)
has_shard_row P (r ∷ rows) shard all has = elim (or_cases (r.shard == shard) (has_shard shard rows) has) [
  | inl same ↦ subst P (eqb-true r.shard shard same) all.0
  | inr later ↦ has_shard_row P rows shard all.1 later
]

-- and of the home that they give by a number, where it holds of shard 0
pub home_row : (P : ℕ → Type 0) (rows : List Row) (homes : List ℕ) (n : ℕ) → P 0 → AllByRecursion (λ (r : Row). P r.shard) rows
    → AllByRecursion (λ home. IsTrue (has_shard home rows)) homes → P (get_or homes n 0)
home_row P rows [] n none all each = none
home_row P rows (h ∷ hs) zero none all each = has_shard_row P rows h all each.0
home_row P rows (h ∷ hs) (suc n) none all each = home_row P rows hs n none all each.1

-- the home that a cluster gives by a number
pub home_small : (c : Config) (n : ℕ) → IsValidConfig c → get_or c.homes n 0 ≤ 5
home_small c n valid =
    let rows = all_weaken (λ (r : Row). r.shard < c.shards) (λ r. r.shard ≤ 5) c.table (λ r below. omega (arith, below, valid.most_shards)) valid.rows.have_nodes in
    home_row (λ home. home ≤ 5) c.table c.homes n (omega arith) rows valid.homes

-- the shard of a window's row
pub spot_small : (spots : List Spot) (i : ℕ) (s : Spot) → list_all is_row (rows_of spots) ≡ true → slice_get spots i ≡ Some s → s.shard ≤ 5
spot_small [] i s valid e = absurd (cc)
spot_small (r ∷ rs) zero s valid e =
    let same : r ≡ s = cc in
    let below = ltb-true r.shard 6 (and_parts (nat_lt r.shard 6) _ (and_parts (is_row (row_of r)) _ valid).0).0 in
    subst (λ (x : Spot). x.shard ≤ 5) same (omega (arith, below))
spot_small (r ∷ rs) (suc i) s valid e = spot_small rs i s (and_parts (is_row (row_of r)) _ valid).1 e
