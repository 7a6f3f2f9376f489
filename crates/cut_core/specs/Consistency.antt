-- The laws of every list of entries: windows follow one another, each local has one position, gone shards have ended.
use Rattle.std.specs.Prelude.{ℕ, ◌<◌, ◌≤◌, ◌≡◌, ◌+◌, ◌*◌, ◌↔◌, true, false, List, length, Some, None, IsSome, IfSome}
use Rattle.std.specs.List.{AllByRecursion, range_with_len}
use Rattle.quota_table.specs.declared.entry.Entry.{Entry}
use Rattle.quota_table.specs.declared.entry.Entry.TheVariants.{Remove}
use Rattle.quota_table.specs.declared.rows.Row.{Row}
use Rattle.quota_table.specs.Rows.{IsTable}
use Rattle.fix_ante.specs.Windows.{Window, has_row, end_of, first_of, start_after}
use Rattle.fix_ante.specs.Locals.{locals_of}
use Rattle.fix_ante.specs.Moves.{IsFirstMoved, first_failed_of}
use Rattle.cut_core.specs.Agreements.{Agreement, count_of, is_gone}
use Rattle.cut_core.specs.Reasons.{fault_of}
use Rattle.cut_core.specs.Soundness.{IsSound, IsGrant}
use Rattle.cut_core.specs.Fold.{applied, applied_all, fold_of, HasValidTable}
use Rattle.cut_core.specs.Map.{map_of, mapped, leased, covered_locals, gone_end}

-- a window that follows all rounds of the current one, and ends where the entries so far allow
pub record Follows (a : Agreement) (w : Window) : Type 0 where
  pub grant : IsGrant a w
  pub reach : end_of w ≤ 393216 * a.slots + 786432

-- a removal moves no covered position, and its first position is the least that it moves
pub record MovesFrom (a : Agreement) (entry : Entry) (first : ℕ) : Type 0 where
  pub uncovered : length a.covered ≤ first
  pub least : IsFirstMoved (mapped a) (mapped (applied a entry)) first

-- what every list of entries leaves
pub record IsConsistent (a : Agreement) : Type 0 where
  -- the current window, of which a round is left, and the granted one
  pub sound : IsSound a
  pub reach : end_of a.current ≤ 393216 * a.slots + 393216
  pub granted : IfSome a.granted (Follows a)
  pub fits : length (map_of a) ≤ 393216 * a.slots + 786432
  -- covered locals: a row goes on with its shard's next local, another shard has none, or is gone and has ended
  pub rows_go_on : (shard : ℕ) → has_row shard a.current.spots ≡ true → start_after a.current.spots a.rounds shard ≡ covered_locals a shard
  pub others_have_none : (shard : ℕ) → has_row shard a.current.spots ≡ false → is_gone a shard ≡ false → covered_locals a shard ≡ 0
  pub gone_have_ended : (shard : ℕ) → is_gone a shard ≡ true → gone_end a shard ≡ Some (covered_locals a shard)
  -- the map: a shard has its locals 0, 1, 2 and so on, each once, and a gone one no more than the covered ones
  pub dense : (shard : ℕ) → locals_of shard (map_of a) ≡ range_with_len 0 (count_of shard (map_of a))
  pub leases : (shard local : ℕ) → IsSome (leased a shard local) ↔ (local < count_of shard (map_of a))
  pub places : (shard local position : ℕ) → (leased a shard local ≡ Some position) ↔ (mapped a position ≡ Some (record { shard = shard; local = local }))
  pub gone_own_covered : (shard : ℕ) → is_gone a shard ≡ true → count_of shard (map_of a) ≡ covered_locals a shard
  -- removals
  pub removals : (window shard : ℕ) → a.slots < 1000000 → fault_of a (Remove window shard) ≡ None
      → MovesFrom a (Remove window shard) (first_failed_of a.current a.rounds shard)

abbrev pub FoldsAreConsistent : Type 0
FoldsAreConsistent =
    (rounds : ℕ) (rows : List Row) (entries : List Entry) →
    1 ≤ rounds → rounds ≤ 1024 → IsTable rows → length entries ≤ 1000000 → AllByRecursion HasValidTable entries →
    IsConsistent (fold_of (first_of rounds rows) entries)

-- what more entries leave as it was
pub record IsContinuedBy (before after : Agreement) : Type 0 where
  pub locals_grow : (shard : ℕ) → covered_locals before shard ≤ covered_locals after shard
  pub gone_stay : (shard end : ℕ) → gone_end before shard ≡ Some end → gone_end after shard ≡ Some end
  pub covered_agree : (position : ℕ) → position < length before.covered → (position < length after.covered) × (mapped after position ≡ mapped before position)
  pub later_is_above : (shard local position : ℕ) → covered_locals before shard ≤ local → mapped after position ≡ Some (record { shard = shard; local = local })
      → length before.covered ≤ position

abbrev pub FoldsAreContinued : Type 0
FoldsAreContinued =
    (rounds : ℕ) (rows : List Row) (entries more : List Entry) →
    1 ≤ rounds → rounds ≤ 1024 → IsTable rows → length entries ≤ 1000000 → AllByRecursion HasValidTable entries →
    (let before : Agreement = fold_of (first_of rounds rows) entries in IsContinuedBy before (applied_all before more))
