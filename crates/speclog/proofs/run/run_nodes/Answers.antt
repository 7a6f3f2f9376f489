use Rattle.msg_wire.specs.Nodes.{nodes_of}
use Rattle.shelf_vaults.specs.Sights.{sight}
use Rattle.cluster_run.proofs.AllNames.{all_on, all_tell}
use Rattle.speclog.proofs.run.run_nodes.Goals as goal

pub run_cluster-requires-clause-on_shelf : goal.run_cluster-requires-clause-on_shelf
run_cluster-requires-clause-on_shelf g c = λ κs lives.
    all_on (sight g.H.Shelf.faults g.H.Shelf.in_a_row g.H.Shelf.is_out g.H.Shelf.given g.H.Shelf.kept c.args.shelf.now) (nodes_of c.args.plan.now.cfg)
    c.requires.on_shelf

pub run_cluster-requires-clause-told : goal.run_cluster-requires-clause-told
run_cluster-requires-clause-told g c = λ κs lives.
    all_tell g.H.D.Disk.seen (sight g.H.Shelf.faults g.H.Shelf.in_a_row g.H.Shelf.is_out g.H.Shelf.given g.H.Shelf.kept c.args.shelf.now)
    (nodes_of c.args.plan.now.cfg) c.requires.told
