use Rattle.std.proofs.Common.{[], refl, subst, IfOk}
use Rattle.spec_base.specs.MemDisk.{content_of}
use Rattle.spec_base.specs.contracts.mem_disk.MemDiskDisk.TheImpl.{ghosts as in_memory}
use Rattle.cluster_seats.specs.Seatings.{KeepsNone}
use Rattle.cluster_seats.proofs.toys.vault.Goals as goal

pub returns-in-Ok : goal.returns-in-Ok
returns-in-Ok c = c.in-Ok.ensures.empty (content_of c.in_ok-disk.disk.calls) refl
