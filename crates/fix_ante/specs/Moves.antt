-- The positions that a removal moves, and the least of them.
use Rattle.std.specs.Prelude.{ℕ, ◌+◌, ◌<◌, ◌≡◌, ◌≢◌, nat_lt, if◌then◌else◌, Option}
use Rattle.quota_table.specs.Tables.{quotas_before}
use Rattle.fix_ante.specs.declared.spots.Owner.{Owner}
use Rattle.fix_ante.specs.Windows.{Window, rows_of, end_after, without_of}
use Rattle.fix_ante.specs.Layout.{owner_of}

-- who has a position once a window is followed by another: below the other's base the owners stay
abbrev pub owner_after : Window → Window → ℕ → Option Owner
owner_after before after position = if nat_lt position after.base then owner_of before position else owner_of after position

-- the least position to which two maps give different owners
pub record IsFirstMoved (before after : ℕ → Option Owner) (position : ℕ) : Type 0 where
  pub stays : (p : ℕ) → p < position → before p ≡ after p
  pub moves : before position ≢ after position

-- the least position that the removal of a shard moves, where this many rounds are covered
abbrev pub IsFirstFailed : Window → ℕ → ℕ → ℕ → Type 0
IsFirstFailed w covered shard = IsFirstMoved (owner_of w) (owner_after w (without_of w 0 covered shard))

-- where the shard's first local after the covered rounds stands
abbrev pub first_failed_of : Window → ℕ → ℕ → ℕ
first_failed_of w covered shard = end_after w covered + quotas_before (rows_of w.spots) shard
