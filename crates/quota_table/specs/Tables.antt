-- The first fault of rows that are asked for, and the sums of quotas.
use Rattle.std.specs.Prelude.{ℕ, ◌+◌, ◌==◌, ◌||◌, nat_lt, if◌then◌else◌, List, [], ◌∷◌, ◌++◌, length, Option, Some, None}
use Rattle.std.specs.List.{list_any}
use Rattle.std.specs.Option.{option_or}
use Rattle.quota_table.specs.declared.rows.Asked.{Asked}
use Rattle.quota_table.specs.declared.rows.Row.{Row}
use Rattle.quota_table.specs.Rows.{has_shard}
use Rattle.quota_table.specs.declared.errors.TableError.{TableError}
use Rattle.quota_table.specs.declared.errors.TableError.TheVariants.{Empty, TooMany, BadShard, Twice, BadQuota}

-- the row that was asked for
abbrev pub asked_row : Asked → Row
asked_row a = record { shard = a.shard; quota = a.quota }

-- what is wrong with a row, after the rows before it
abbrev pub row_fault : List Asked → Asked → Option TableError
row_fault earlier a =
    if nat_lt 5 a.shard then Some (BadShard a.shard)
    else if list_any (λ (b : Asked). b.shard == a.shard) earlier then Some (Twice a.shard)
    else if ((a.quota == 0) || nat_lt 64 a.quota) then Some (BadQuota a.shard a.quota)
    else None

-- the first fault of the rows that follow the earlier ones
abbrev pub rows_fault : List Asked → List Asked → Option TableError
rows_fault earlier [] = None
rows_fault earlier (a ∷ rest) = option_or (row_fault earlier a) (rows_fault (earlier ++ a ∷ []) rest)

-- what is wrong with a list of rows: its length, or else its first fault
abbrev pub table_fault : List Asked → Option TableError
table_fault rows =
    if length rows == 0 then Some Empty
    else if nat_lt 6 (length rows) then Some (TooMany (length rows))
    else rows_fault [] rows

-- positions in a round
abbrev pub quotas_of : List Row → ℕ
quotas_of [] = 0
quotas_of (r ∷ rs) = r.quota + quotas_of rs

-- the sum of the quotas of the rows before the shard's, or of all where no row is the shard's
abbrev pub quotas_before : List Row → ℕ → ℕ
quotas_before [] shard = 0
quotas_before (r ∷ rs) shard = if r.shard == shard then 0 else r.quota + quotas_before rs shard

-- the same, but none where no row is the shard's
abbrev pub offset_of : List Row → ℕ → Option ℕ
offset_of rows shard = if has_shard shard rows then Some (quotas_before rows shard) else None
