use Rattle.std.proofs.Common.{◌≡◌, length}
use Rattle.std.specs.List.{AllByRecursion}
use Rattle.spec_base.specs.contracts.mem_disk.MemDiskDisk.TheImpl.{ghosts as in_memory}
use Rattle.cluster_seats.specs.Seatings.{KeepsNone}
use Rattle.cluster_seats.proofs.toys.vaults.Given as goal

abbrev pub invariant-loop : goal.invariant-loop
invariant-loop l = record { count : length l.vaults.items ≡ l.counter; empty : AllByRecursion (KeepsNone in_memory) l.vaults.items }
