use Rattle.msg_wire.specs.Nodes.{nodes_of}
use Rattle.shelf_vaults.specs.Sights.{sight}
use Rattle.spec_base.specs.contracts.mem_shelf.MemShelfShelf.TheImpl.{ghosts as in_memory}
use Rattle.cluster_run.proofs.AllNames.{all_back}
use Rattle.cluster_run.proofs.tests.shelves.run_on.Goals as goal

pub returns : goal.returns
returns g c =
    let told = sight in_memory.faults in_memory.in_a_row in_memory.is_out in_memory.given in_memory.kept in
    all_back (told c.args.shelf.now) (told c.run_cluster.new.shelf) (nodes_of c.args.plan.now.cfg) c.run_cluster.ensures.back
    c.run_cluster.ensures.others c.requires.out
