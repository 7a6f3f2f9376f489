-- How often a call fails whose device calls are made once more where they fail, and what its disk tells then.
use Rattle.std.specs.Prelude.{◌≡◌, ◌⊎◌, ℕ, ◌+◌, ◌-◌, ◌^◌, ◌≤◌, List, Option, Some, Result, Ok, Err}
use Rattle.spec_base.specs.Disk.{Torn}
use Rattle.gate_vault.specs.File.{StandsClosed, IsBeforeOrAfter}

-- so many device calls, each made once more where it fails: at Ok none failed twice, and at an error one did at most
abbrev pub TriesEach : {T E : Type 0} → ℕ → ℕ → ℕ → Result T E → Type 0
TriesEach calls faults_old faults_new (Ok _) = faults_new ≤ faults_old + calls
TriesEach calls faults_old faults_new (Err _) = faults_new ≤ faults_old + calls + 1

-- a disk failed twice in one call, one after the other: its count rose by two or more, or stands at the end of its type
pub record FailedTwice (faults_old faults_new row_new : ℕ) : Type 0 where
  pub rose : (faults_old + 2 ≤ faults_new) ⊎ (2 ^ 64 - 1 ≤ faults_new)
  pub in_a_row : row_new ≡ 2

-- the disk tells a file in which the bytes may be torn
abbrev pub IsTornPut : ℕ → ℕ → List ℕ → Option (List ℕ) → Type 0
IsTornPut at n old seen = (file : List ℕ) × (seen ≡ Some file) × Torn at n old file

-- the disk tells a file that stands for these entries, with 00 at its last gate
abbrev pub TellsClosed : Option (List ℕ) → List (List ℕ) → Type 0
TellsClosed seen entries = (file : List ℕ) × (seen ≡ Some file) × StandsClosed file entries

-- the disk tells a file that stands for these entries, or for these and one more, with the byte of its last gate
abbrev pub TellsBeforeOrAfter : Option (List ℕ) → List (List ℕ) → List ℕ → Type 0
TellsBeforeOrAfter seen entries entry = (file : List ℕ) × (seen ≡ Some file) × IsBeforeOrAfter entries entry file
