-- Rows without a fault make a table, and its quotas add up to 1 to 384.
use Rattle.std.proofs.Common.{◌≡◌, ℕ, ◌*◌, ◌≤◌, ◌==◌, ◌||◌, ◌&&◌, true, false, not, List, [], ◌∷◌, ◌++◌, length, map, Option, Some, None, refl, sym, ap, ◌∙◌, inl, inr, arith}
use Rattle.std.specs.List.{list_any, list_all}
use Rattle.std.specs.Option.{option_or}
use Rattle.std.proofs.lemmas.List.Folds.{list_any-append}
use Rattle.std.proofs.lemmas.List.{length-map}
use Rattle.std.proofs.lemmas.Bool.Decides.{nat_tests, eqb_tells}
use Rattle.std.proofs.lemmas.Bool.{false≢true}
use Rattle.quota_table.specs.declared.rows.Asked.{Asked}
use Rattle.quota_table.specs.declared.rows.Row.{Row}
use Rattle.quota_table.specs.declared.errors.TableError.{TableError}
use Rattle.quota_table.specs.Rows.{IsTable, is_row, is_distinct, has_shard}
use Rattle.quota_table.specs.Tables.{asked_row, row_fault, rows_fault, quotas_of}

-- neither of two options has a value where the first that has one is none
option_or_none : (o p : Option TableError) → option_or o p ≡ None → (o ≡ None) × (p ≡ None)
option_or_none None p e = (refl, e)
option_or_none (Some x) p e = (e, absurd (cc))

-- the shard of a row without a fault is in none of the earlier rows
fresh_row : (earlier : List Asked) (a : Asked) → row_fault earlier a ≡ None → list_any (λ (b : Asked). b.shard == a.shard) earlier ≡ false
fresh_row earlier a e = grind (arith, nat_tests)

-- a row without a fault is within the limits
row_within : (earlier : List Asked) (a : Asked) → row_fault earlier a ≡ None → is_row (asked_row a) ≡ true
row_within earlier a e = grind (arith, nat_tests)

-- two shards of which one is among the rows and the other is not
not_equal : (earlier : List Asked) (x y : ℕ) → list_any (λ (b : Asked). b.shard == x) earlier ≡ false → list_any (λ (b : Asked). b.shard == y) earlier ≡ true
    → (x == y) ≡ false
not_equal earlier x y fresh h = elim (eqb_tells x y) [
  | inl same ↦ absurd (false≢true (sym fresh ∙ (ap (λ n. list_any (λ (b : Asked). b.shard == n) earlier) same.1 ∙ h)))
  | inr other ↦ other.0
]

shard_at_end : (earlier : List Asked) (a : Asked) → list_any (λ (b : Asked). b.shard == a.shard) (earlier ++ a ∷ []) ≡ true
shard_at_end earlier a =
    list_any-append _ earlier (a ∷ []) ∙ grind (arith, nat_tests)

-- a shard of the earlier rows is in none of those that follow without a fault
fresh_rows : (earlier rest : List Asked) (shard : ℕ) → rows_fault earlier rest ≡ None → list_any (λ (b : Asked). b.shard == shard) earlier ≡ true
    → has_shard shard (map asked_row rest) ≡ false
fresh_rows earlier [] shard e h = refl
fresh_rows earlier (b ∷ rest) shard e h =
    let parts : (row_fault earlier b ≡ None) × (rows_fault (earlier ++ b ∷ []) rest ≡ None) = option_or_none _ _ e in
    let fresh = fresh_row earlier b parts.0 in
    let later = fresh_rows (earlier ++ b ∷ []) rest shard parts.1 (list_any-append _ earlier (b ∷ []) ∙ ap (λ t. t || list_any (λ (b : Asked). b.shard == shard) (b ∷ [])) h) in
    let other : (b.shard == shard) ≡ false = not_equal earlier b.shard shard fresh h in
    ap (λ t. t || has_shard shard (map asked_row rest)) other ∙ later

rows_within : (earlier rest : List Asked) → rows_fault earlier rest ≡ None → list_all is_row (map asked_row rest) ≡ true
rows_within earlier [] e = refl
rows_within earlier (a ∷ rest) e =
    let parts = option_or_none _ _ e in
    ap (λ t. t && list_all is_row (map asked_row rest)) (row_within earlier a parts.0) ∙ rows_within (earlier ++ a ∷ []) rest parts.1

rows_distinct : (earlier rest : List Asked) → rows_fault earlier rest ≡ None → is_distinct (map asked_row rest) ≡ true
rows_distinct earlier [] e = refl
rows_distinct earlier (a ∷ rest) e =
    let parts = option_or_none _ _ e in
    let here : list_any (λ (b : Asked). b.shard == a.shard) (earlier ++ a ∷ []) ≡ true = shard_at_end earlier a in
    ap (λ t. not t && is_distinct (map asked_row rest)) (fresh_rows (earlier ++ a ∷ []) rest a.shard parts.1 here) ∙ rows_distinct (earlier ++ a ∷ []) rest parts.1

-- rows without a fault make a table
pub IsTable_from_fault : (rows : List Asked) → 1 ≤ length rows → length rows ≤ 6 → rows_fault [] rows ≡ None → IsTable (map asked_row rows)
IsTable_from_fault rows some few e = record {
  some = omega (arith, length-map rows asked_row);
  few = omega (arith, length-map rows asked_row);
  within = rows_within [] rows e;
  distinct = rows_distinct [] rows e;
}

pub row_bounds : (r : Row) (rs : List Row) → list_all is_row (r ∷ rs) ≡ true → (1 ≤ r.quota) × (r.quota ≤ 64) × (list_all is_row rs ≡ true)
row_bounds r rs e = grind (arith, nat_tests)

-- each row has 1 to 64 positions in a round
quotas_of_rows : (rows : List Row) → list_all is_row rows ≡ true → (length rows ≤ quotas_of rows) × (quotas_of rows ≤ 64 * length rows)
quotas_of_rows [] e = (omega arith, omega arith)
quotas_of_rows (r ∷ rs) e =
    let within : (1 ≤ r.quota) × (r.quota ≤ 64) × (list_all is_row rs ≡ true) = row_bounds r rs e in
    let rest = quotas_of_rows rs within.2 in
    (omega arith, omega arith)

-- a round of a table has 1 to 384 positions
pub quotas_of_table : (rows : List Row) → IsTable rows → (1 ≤ quotas_of rows) × (quotas_of rows ≤ 384)
quotas_of_table rows t =
    let bounds = quotas_of_rows rows t.within in
    (omega (arith, t.some), omega (arith, t.few))
