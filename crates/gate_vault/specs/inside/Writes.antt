-- What becomes of a disk's bytes in a write that is made once more where it fails, and in a write with a sync.
use Rattle.std.specs.Prelude.{◌≡◌, ℕ, List, length, Option, Some}
use Rattle.spec_base.specs.Crash.{Only}
use Rattle.spec_base.specs.Disk.{Torn, Written}
use Rattle.gate_vault.specs.File.{StandsClosed}

-- the bytes were written, maybe after a write of them that failed
abbrev pub WrittenOver : ℕ → List ℕ → List ℕ → List ℕ → Type 0
WrittenOver at bytes old new = (mid : List ℕ) × Torn at (length bytes) old mid × Written at bytes mid new

-- the disk tells a file with the bytes written, and every crash leaves that file
pub record IsPut (at : ℕ) (bytes old : List ℕ) (seen : Option (List ℕ)) (outcomes : List ℕ → Type 0) : Type 0 where
  pub file : List ℕ
  pub told : seen ≡ Some file
  pub written : WrittenOver at bytes old file
  pub only : Only file outcomes

-- the disk tells a file that stands for these entries, with 00 at its last gate, and every crash leaves that file
pub record KeepsClosed (seen : Option (List ℕ)) (outcomes : List ℕ → Type 0) (entries : List (List ℕ)) : Type 0 where
  pub file : List ℕ
  pub told : seen ≡ Some file
  pub stands : StandsClosed file entries
  pub only : Only file outcomes
