use Rattle.std.proofs.Common.{◌≡◌, ◌+◌, ◌≤◌, map, vec_len, vec_capacity}
use Rattle.std.specs.Vec.Iter.{into_iter_len}
use Rattle.gate_vault.specs.Vault.{disk_of}
use Rattle.shelf_vaults.proofs.shelf.disks_of.Given as goal

abbrev pub invariant-loop-vault : goal.invariant-loop-vault
invariant-loop-vault g l = record {
  each : l.disks.items ≡ map disk_of l.yielded;
  room : vec_len l.disks + into_iter_len l.vault-iterator ≤ vec_capacity l.disks;
}
