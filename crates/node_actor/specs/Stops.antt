-- Why a node stops.
use Rattle.gate_vault.specs.declared.errors.VaultError.{VaultError}
use Rattle.gate_vault.specs.declared.errors.VaultError.TheVariants as vault
use Rattle.node_actor.specs.declared.stopped.Stopped.{Stopped}
use Rattle.node_actor.specs.declared.stopped.Stopped.TheVariants.{Disk, Memory}

-- where a call of its vault answered an error
abbrev pub stop_of : VaultError → Stopped
stop_of vault.DiskFault = Disk
stop_of _ = Memory
