-- A disk in memory: the calls that changed it tell its bytes and what a crash may leave of them.
use Rattle.std.specs.Prelude.{◌≡◌, ◌⊎◌, ℕ, ◌+◌, ◌-◌, ◌≤◌, min, List, [], ◌∷◌, ◌++◌, length, take, drop, replicate}
use Rattle.spec_base.specs.declared.disk_call.DiskCall.{DiskCall}
use Rattle.spec_base.specs.declared.disk_call.DiskCall.TheVariants.{Write, Sync}
use Rattle.spec_base.specs.Plan.{Plan}
use Rattle.spec_base.specs.Disk.{Torn}

-- the calls that changed it, the newest first; which calls fail; how many failed in a row
pub record DiskMemory : Type 0 where
  pub calls : List DiskCall
  pub plan : Plan
  pub row : ℕ

-- how many of its last calls failed one after the other
abbrev pub failures_in_a_row : DiskMemory → ℕ
failures_in_a_row disk = min disk.row 2

-- the bytes at an offset over the old ones; zeros between the old end and the offset
abbrev pub overwritten : ℕ → List ℕ → List ℕ → List ℕ
overwritten at bytes old = take at old ++ replicate (at - length old) 0 ++ bytes ++ drop (at + length bytes) old

-- the bytes after these calls
abbrev pub content_of : List DiskCall → List ℕ
content_of [] = []
content_of (Write at bytes ∷ older) = overwritten at bytes (content_of older)
content_of (Sync ∷ older) = content_of older

-- what a crash may leave after these calls: each torn image of the writes since the last sync
abbrev pub IsLeft : List DiskCall → List ℕ → Type 0
IsLeft [] c = c ≡ []
IsLeft (Write at bytes ∷ older) c = (d : List ℕ) × IsLeft older d × Torn at (length bytes) d c
IsLeft (Sync ∷ older) c = c ≡ content_of older

-- what a crash might have left at one of these moments, of which each call is one more, from t on
abbrev pub WasLeft : List DiskCall → ℕ → List ℕ → Type 0
WasLeft [] t c = IsLeft [] c
WasLeft (call ∷ older) t c = IsLeft (call ∷ older) c ⊎ ((t ≤ length older) × WasLeft older t c)
