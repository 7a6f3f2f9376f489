-- The vault's error for a disk call that stopped.
use Rattle.spec_base.specs.declared.stop.Stop.{Stop}
use Rattle.spec_base.specs.declared.stop.Stop.TheVariants.{Failed, OutOfMemory as NoMemory}
use Rattle.gate_vault.specs.declared.errors.VaultError.{VaultError}
use Rattle.gate_vault.specs.declared.errors.VaultError.TheVariants.{DiskFault, OutOfMemory}

-- what a vault answers where a disk call stopped
abbrev pub error_of : Stop → VaultError
error_of Failed = DiskFault
error_of NoMemory = OutOfMemory
