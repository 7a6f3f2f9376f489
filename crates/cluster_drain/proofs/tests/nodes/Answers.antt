use Rattle.spec_base.specs.contracts.mem_disk.MemDiskDisk.TheImpl.{ghosts as in_memory}
use Rattle.cluster_seats.specs.contracts.toys.ToyNodeModel.TheImpl.{ghosts as toy}
use Rattle.node_actor.proofs.Results.{map_if}
use Rattle.cluster_drain.specs.Drains.{CanDrain}
use Rattle.cluster_drain.proofs.Beginning.{can_drain}
use Rattle.cluster_drain.proofs.tests.nodes.Goals as goal

pub returns : goal.returns
returns c = map_if c.toys.result _ _ (λ actors sits. can_drain toy in_memory sits.0 sits.1 sits.2 actors.items sits.3) c.toys.ensures
