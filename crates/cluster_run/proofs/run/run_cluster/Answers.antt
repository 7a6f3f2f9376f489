use Rattle.std.proofs.Common.{inl, inr}
use Rattle.msg_wire.specs.Nodes.{nodes_of}
use Rattle.shelf_vaults.proofs.Breaks.{breaks_at_once, on_err}
use Rattle.shelf_vaults.specs.Sights.{sight}
use Rattle.cluster_run.proofs.Returned.{memory_at_error}
use Rattle.cluster_run.proofs.run.run_cluster.Goals as goal

pub returns-in_err-names-clause-leaves : goal.returns-in_err-names-clause-leaves
returns-in_err-names-clause-leaves g c =
    let told = sight g.H.Shelf.faults g.H.Shelf.in_a_row g.H.Shelf.is_out g.H.Shelf.given g.H.Shelf.kept in
    on_err c.from_residual.result _ (inr (inl (breaks_at_once g.H.D.Disk.seen (nodes_of c.args.plan.now.cfg) (told c.args.shelf.now))))

pub returns-in_err-names-clause-fault : goal.returns-in_err-names-clause-fault
returns-in_err-names-clause-fault g c =
    let told = sight g.H.Shelf.faults g.H.Shelf.in_a_row g.H.Shelf.is_out g.H.Shelf.given g.H.Shelf.kept in
    memory_at_error g.H.D.Disk.faults (nodes_of c.args.plan.now.cfg) (told c.args.shelf.now) (told c.args.shelf.now) c.from_residual.result
    c.from_residual.ensures.1

pub returns-in_err-nodes-clause-leaves : goal.returns-in_err-nodes-clause-leaves
returns-in_err-nodes-clause-leaves g c =
    let told = sight g.H.Shelf.faults g.H.Shelf.in_a_row g.H.Shelf.is_out g.H.Shelf.given g.H.Shelf.kept in
    on_err c.from_residual-in_err-nodes.result _ (inr (inl (breaks_at_once g.H.D.Disk.seen (nodes_of c.args.plan.now.cfg) (told c.args.shelf.now))))

pub returns-in_err-nodes-clause-fault : goal.returns-in_err-nodes-clause-fault
returns-in_err-nodes-clause-fault g c =
    let told = sight g.H.Shelf.faults g.H.Shelf.in_a_row g.H.Shelf.is_out g.H.Shelf.given g.H.Shelf.kept in
    memory_at_error g.H.D.Disk.faults (nodes_of c.args.plan.now.cfg) (told c.args.shelf.now) (told c.args.shelf.now) c.from_residual-in_err-nodes.result
    c.from_residual-in_err-nodes.ensures.1

pub returns-in_err-users-clause-leaves : goal.returns-in_err-users-clause-leaves
returns-in_err-users-clause-leaves g c =
    let told = sight g.H.Shelf.faults g.H.Shelf.in_a_row g.H.Shelf.is_out g.H.Shelf.given g.H.Shelf.kept in
    on_err c.from_residual-in_err-users.result _ (inr (inl (breaks_at_once g.H.D.Disk.seen (nodes_of c.args.plan.now.cfg) (told c.args.shelf.now))))

pub returns-in_err-users-clause-fault : goal.returns-in_err-users-clause-fault
returns-in_err-users-clause-fault g c =
    let told = sight g.H.Shelf.faults g.H.Shelf.in_a_row g.H.Shelf.is_out g.H.Shelf.given g.H.Shelf.kept in
    memory_at_error g.H.D.Disk.faults (nodes_of c.args.plan.now.cfg) (told c.args.shelf.now) (told c.args.shelf.now) c.from_residual-in_err-users.result
    c.from_residual-in_err-users.ensures.1

pub returns-in_err-rooms-clause-leaves : goal.returns-in_err-rooms-clause-leaves
returns-in_err-rooms-clause-leaves g c =
    let told = sight g.H.Shelf.faults g.H.Shelf.in_a_row g.H.Shelf.is_out g.H.Shelf.given g.H.Shelf.kept in
    on_err c.from_residual-in_err-rooms.result _ (inr (inl (breaks_at_once g.H.D.Disk.seen (nodes_of c.args.plan.now.cfg) (told c.args.shelf.now))))

pub returns-in_err-rooms-clause-fault : goal.returns-in_err-rooms-clause-fault
returns-in_err-rooms-clause-fault g c =
    let told = sight g.H.Shelf.faults g.H.Shelf.in_a_row g.H.Shelf.is_out g.H.Shelf.given g.H.Shelf.kept in
    memory_at_error g.H.D.Disk.faults (nodes_of c.args.plan.now.cfg) (told c.args.shelf.now) (told c.args.shelf.now) c.from_residual-in_err-rooms.result
    c.from_residual-in_err-rooms.ensures.1

pub returns-in_err-history-clause-leaves : goal.returns-in_err-history-clause-leaves
returns-in_err-history-clause-leaves g c = on_err c.from_residual-in_err-history.result _ (inr (inr c.in_ok-went.ensures.stored))

pub returns-in_err-history-clause-fault : goal.returns-in_err-history-clause-fault
returns-in_err-history-clause-fault g c =
    let told = sight g.H.Shelf.faults g.H.Shelf.in_a_row g.H.Shelf.is_out g.H.Shelf.given g.H.Shelf.kept in
    memory_at_error g.H.D.Disk.faults (nodes_of c.args.plan.now.cfg) (told c.args.shelf.now) (told c.run_on_shelf.new.shelf)
    c.from_residual-in_err-history.result c.from_residual-in_err-history.ensures.1
