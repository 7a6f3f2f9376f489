-- What a node's store keeps, and what its disk tells.
use Rattle.std.specs.Prelude.{◌≡◌, ℕ, List, Option, Some, map}
use Rattle.std.specs.List.{AllByRecursion}
use Rattle.gate_vault.specs.File.{StandsWithGate}
use Rattle.gate_vault.specs.Vault.{KeepsWithGate, disk_of}
use Rattle.spec_base.specs.declared.disk.Disk.{Ghosts as DiskRules}
use Rattle.msg_wire.specs.Items.{items_spelling}
use Rattle.msg_wire.specs.Steps.{IsVaultEntry}
use Rattle.node_actor.specs.declared.store.Store.{Store}
use Rattle.node_actor.specs.declared.store.Store.TheVariants as stores
use Rattle.node_actor.specs.Chunks.{Chunks}

-- a store's disk
abbrev pub disk_in : {D : Type 0} → Store D → D
disk_in (stores.Open vault) = disk_of vault
disk_in (stores.Shut disk) = disk

-- each is one item or more, and all are valid
abbrev pub AreEntries : Chunks → Type 0
AreEntries = AllByRecursion IsVaultEntry

-- the vault is open, its disk tells its bytes, and keeps these entries
abbrev pub KeepsChunks : {D : Type 0} → DiskRules D → Store D → Chunks → Type 0
KeepsChunks d (stores.Open vault) chunks = KeepsWithGate d.seen d.may_leave vault (map items_spelling chunks) × AreEntries chunks
KeepsChunks d (stores.Shut disk) chunks = ⊥

-- a disk tells a file that stands for entries of valid items
pub record TellsItems (seen : Option (List ℕ)) : Type 0 where
  pub file : List ℕ
  pub chunks : Chunks
  pub told : seen ≡ Some file
  pub stands : StandsWithGate file (map items_spelling chunks)
  pub entries : AreEntries chunks
