-- Which errors the parts of a load may have.
use Rattle.std.specs.Prelude.{⊤, Result, Ok, Err}
use Rattle.gate_vault.specs.declared.errors.VaultError.{VaultError}
use Rattle.gate_vault.specs.declared.errors.VaultError.TheVariants.{DiskFault, NotAVault, Damaged, OutOfMemory}
use Rattle.gate_vault.specs.Stops.{IsOfFile}

-- a disk fault, want of memory or an error of this kind, where it is an error
abbrev pub IsStopOr : {T : Type 0} → (VaultError → Type 0) → Result T VaultError → Type 0
IsStopOr Other (Ok _) = ⊤
IsStopOr Other (Err DiskFault) = ⊤
IsStopOr Other (Err OutOfMemory) = ⊤
IsStopOr Other (Err e) = Other e

-- a frame that is damaged
abbrev pub IsDamage : VaultError → Type 0
IsDamage (Damaged at) = ⊤
IsDamage _ = ⊥

-- a file that is no vault
abbrev pub IsNoVault : VaultError → Type 0
IsNoVault (NotAVault at byte) = ⊤
IsNoVault _ = ⊥

-- P, where a file was read to its end or refused
abbrev pub WhereRead : {T : Type 0} → Result T VaultError → Type 0 → Type 0
WhereRead (Ok _) P = P
WhereRead (Err e) P = IsOfFile e → P
