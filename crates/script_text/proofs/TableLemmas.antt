-- Tables and the rows that were asked for.
use Rattle.std.proofs.Common.{◌≡◌, ℕ, ◌<◌, ◌≤◌, ◌==◌, ◌||◌, Bool, true, false, nat_lt, List, [], ◌∷◌, ◌++◌, length, map, None, refl, ◌∙◌, arith}
use Rattle.std.specs.List.{list_any, list_all, AllByRecursion}
use Rattle.std.proofs.lemmas.List.Folds.{list_any-append}
use Rattle.std.proofs.lemmas.List.{length-map}
use Rattle.std.proofs.lemmas.Bool.Decides.{nat_tests}
use Rattle.quota_table.specs.Rows.{IsTable, is_row, is_distinct, has_shard}
use Rattle.quota_table.specs.Tables.{asked_row, row_fault, rows_fault, table_fault}
use Rattle.quota_table.proofs.TableLemmas.{IsTable_from_fault}
use Rattle.script_text.specs.Names.{Asked, Row}

-- the shard of a row of a table is one of the six
row_below : (s : ℕ) (r : Row) (rs : List Row) (b : Bool) → (r.shard == s) ≡ b → (b || has_shard s rs) ≡ true → list_all is_row (r ∷ rs) ≡ true
    → (has_shard s rs ≡ true → list_all is_row rs ≡ true → s < 6) → s < 6
row_below s r rs true e any v rest = grind (arith, nat_tests)
row_below s r rs false e any v rest = let later : list_all is_row rs ≡ true = grind (arith, nat_tests) in rest any later

shard_below : (s : ℕ) (rows : List Row) → has_shard s rows ≡ true → list_all is_row rows ≡ true → s < 6
shard_below s [] any v = cc
shard_below s (r ∷ rs) any v = row_below s r rs (r.shard == s) refl any v (shard_below s rs)

pub shard_of_row : (s : ℕ) (rows : List Row) → IsTable rows → has_shard s rows ≡ true → s < 6
shard_of_row s rows t any = shard_below s rows any t.within

-- ---- a table from rows without a fault

by_counts : (asked : List Asked) (none many : Bool) → (length asked == 0) ≡ none → nat_lt 6 (length asked) ≡ many → table_fault asked ≡ None
    → IsTable (map asked_row asked)
by_counts asked true many e f fault = let bad = rw e at fault in absurd (cc)
by_counts asked false true e f fault = let bad = rw (e, f) at fault in absurd (cc)
by_counts asked false false e f fault =
    let some : 1 ≤ length asked = grind (arith, nat_tests) in
    let few : length asked ≤ 6 = grind (arith, nat_tests) in
    IsTable_from_fault asked some few (rw (e, f) at fault)

pub IsTable_from_asked : (asked : List Asked) → table_fault asked ≡ None → IsTable (map asked_row asked)
IsTable_from_asked asked fault = by_counts asked (length asked == 0) (nat_lt 6 (length asked)) refl refl fault

-- ---- no fault from a table

-- the shards of some rows stand in none of the earlier ones
abbrev Apart : List Asked → List Asked → Type 0
Apart earlier rest = AllByRecursion (λ (b : Asked). list_any (λ (x : Asked). x.shard == b.shard) earlier ≡ false) rest

no_fault : (earlier : List Asked) (a : Asked) → is_row (asked_row a) ≡ true → list_any (λ (x : Asked). x.shard == a.shard) earlier ≡ false
    → row_fault earlier a ≡ None
no_fault earlier a within fresh = grind (arith, nat_tests)

one_more : (earlier : List Asked) (a b : Asked) → list_any (λ (x : Asked). x.shard == b.shard) earlier ≡ false → (b.shard == a.shard) ≡ false
    → list_any (λ (x : Asked). x.shard == b.shard) (earlier ++ a ∷ []) ≡ false
one_more earlier a b old other =
    list_any-append (λ (x : Asked). x.shard == b.shard) earlier (a ∷ []) ∙ grind (arith, nat_tests)

apart_more : (earlier rest : List Asked) (a : Asked) → Apart earlier rest → has_shard a.shard (map asked_row rest) ≡ false → Apart (earlier ++ a ∷ []) rest
apart_more earlier [] a old fresh = tt
apart_more earlier (b ∷ rest) a old fresh =
    let other : (b.shard == a.shard) ≡ false = grind (arith, nat_tests) in
    let later : has_shard a.shard (map asked_row rest) ≡ false = grind (arith, nat_tests) in
    (one_more earlier a b old.0 other, apart_more earlier rest a old.1 later)

faultless : (earlier rest : List Asked) → list_all is_row (map asked_row rest) ≡ true → is_distinct (map asked_row rest) ≡ true → Apart earlier rest
    → rows_fault earlier rest ≡ None
faultless earlier [] within distinct apart = refl
faultless earlier (a ∷ rest) within distinct apart =
    let here : is_row (asked_row a) ≡ true = grind (arith, nat_tests) in
    let later : list_all is_row (map asked_row rest) ≡ true = grind (arith, nat_tests) in
    let fresh : has_shard a.shard (map asked_row rest) ≡ false = grind (arith, nat_tests) in
    let others : is_distinct (map asked_row rest) ≡ true = grind (arith, nat_tests) in
    rw (no_fault earlier a here apart.0) (faultless (earlier ++ a ∷ []) rest later others (apart_more earlier rest a apart.1 fresh))

nothing_before : (rest : List Asked) → Apart [] rest
nothing_before [] = tt
nothing_before (a ∷ rest) = (refl, nothing_before rest)

pub table_fault_none : (asked : List Asked) → IsTable (map asked_row asked) → table_fault asked ≡ None
table_fault_none asked t =
    let size = length-map asked asked_row in
    let some : (length asked == 0) ≡ false = grind (arith, nat_tests, t.some) in
    let few : nat_lt 6 (length asked) ≡ false = grind (arith, nat_tests, t.few) in
    rw (some, few) (faultless [] asked t.within t.distinct (nothing_before asked))
