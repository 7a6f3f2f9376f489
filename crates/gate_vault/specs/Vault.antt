-- What a vault keeps, and what its calls answer.
use Rattle.std.specs.Prelude.{◌≡◌, ℕ, Bool, true, false, nat_lt, if◌then◌else◌, List, Option, Some, None, Result, Ok, Err}
use Rattle.spec_base.specs.Crash.{Only}
use Rattle.gate_vault.specs.declared.errors.VaultError.{VaultError}
use Rattle.gate_vault.specs.declared.errors.VaultError.TheVariants.{Broken, TooLong, DiskFault, OutOfMemory}
use Rattle.gate_vault.specs.declared.vault.Vault.{Vault}
use Rattle.gate_vault.specs.File.{StandsFor, StandsWithGate, AreShort, gate_after}

-- the disk tells a file that stands for these entries in this way, within the limit, and every crash leaves that file
pub record KeepsAs {D : Type 0} (Stands : List ℕ → List (List ℕ) → Type 0) (seen : D → Option (List ℕ)) (may_leave : D → List ℕ → Type 0) (vault : Vault D) (entries : List (List ℕ)) : Type 0 where
  pub file : List ℕ
  pub told : seen vault.disk ≡ Some file
  pub stands : Stands file entries
  pub only : Only file (may_leave vault.disk)
  pub short : AreShort entries
  pub gate : vault.gate ≡ gate_after entries

abbrev pub Keeps : {D : Type 0} → (D → Option (List ℕ)) → (D → List ℕ → Type 0) → Vault D → List (List ℕ) → Type 0
Keeps = KeepsAs StandsFor

-- and the byte of the last gate stands in the file
abbrev pub KeepsWithGate : {D : Type 0} → (D → Option (List ℕ)) → (D → List ℕ → Type 0) → Vault D → List (List ℕ) → Type 0
KeepsWithGate = KeepsAs StandsWithGate

-- the vault's disk
abbrev pub disk_of : {D : Type 0} → Vault D → D
disk_of vault = vault.disk

-- the disk after a format: the vault's, or the one that comes back with the error
abbrev pub formatted_disk : {D : Type 0} → Result (Vault D) (D × VaultError) → D
formatted_disk (Ok vault) = disk_of vault
formatted_disk (Err refused) = refused.0

-- the disk after a load
abbrev pub loaded_disk : {D : Type 0} → Result (Vault D × List (List ℕ)) (D × VaultError) → D
loaded_disk (Ok loaded) = disk_of loaded.0
loaded_disk (Err refused) = refused.0

-- an earlier append of this vault had a disk fault or no memory
abbrev pub is_broken : {D : Type 0} → Vault D → Bool
is_broken vault = vault.broken

-- why an append is refused before anything is done: the vault is broken, or the entry has more than 4,096 bytes
abbrev pub refusal_of : Bool → ℕ → Option VaultError
refusal_of broken len = if broken then Some Broken else if nat_lt 4096 len then Some (TooLong len) else None

-- a vault is broken after an append that had a disk fault or no memory; a refused one leaves it as it was
abbrev pub broken_after : {T : Type 0} → Bool → Result T VaultError → Bool
broken_after broken (Ok _) = false
broken_after broken (Err DiskFault) = true
broken_after broken (Err OutOfMemory) = true
broken_after broken (Err _) = broken
