-- Which errors the calls of a vault may have.
use Rattle.std.specs.Prelude.{⊤, ℕ, List}
use Rattle.gate_vault.specs.declared.errors.VaultError.{VaultError}
use Rattle.gate_vault.specs.declared.errors.VaultError.TheVariants.{Broken, TooLong, DiskFault, NotAVault, Damaged, OutOfMemory}
use Rattle.gate_vault.specs.File.{HeadDiffers, IsDamagedAt}

-- a disk fault or want of memory
abbrev pub IsStop : VaultError → Type 0
IsStop DiskFault = ⊤
IsStop OutOfMemory = ⊤
IsStop _ = ⊥

-- what a file was refused for, once it was read
abbrev pub IsOfFile : VaultError → Type 0
IsOfFile (NotAVault at byte) = ⊤
IsOfFile (Damaged at) = ⊤
IsOfFile _ = ⊥

-- why a load may fail: not as an append does
abbrev pub IsLoadError : VaultError → Type 0
IsLoadError Broken = ⊥
IsLoadError (TooLong len) = ⊥
IsLoadError _ = ⊤

-- why a file is refused: its head differs, or it is damaged; and a disk fault or want of memory say nothing of it
abbrev pub RefusesFile : List ℕ → VaultError → Type 0
RefusesFile file (NotAVault at byte) = HeadDiffers file at byte
RefusesFile file (Damaged at) = IsDamagedAt file at
RefusesFile file DiskFault = ⊤
RefusesFile file OutOfMemory = ⊤
RefusesFile file _ = ⊥
