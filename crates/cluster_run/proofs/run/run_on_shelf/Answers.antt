use Rattle.std.proofs.Common.{inr, length, sym, ap, ◌∙◌, subst}
use Rattle.std.specs.List.{AllByRecursion}
use Rattle.world.specs.contracts.any_node.AnyNodeNodeModel.TheImpl.{ghosts as any_rules}
use Rattle.msg_wire.specs.Nodes.{nodes_of}
use Rattle.spec_base.specs.Spelling.{IsValidNode}
use Rattle.shelf_vaults.specs.Sights.{sight, HaveOwnNames, IsFaultAmong, IsNameOfNone}
use Rattle.cluster_run.specs.Running.{HaveRun}
use Rattle.cluster_run.proofs.Distinct.{nodes_have_own_names}
use Rattle.cluster_run.proofs.Returned.{back_on, back_with_entries, back_with_fault, disk_each, fault_at_error}
use Rattle.cluster_run.proofs.Shelved.{are_out, nodes_are_valid, one_each, run_makes_runs}
use Rattle.cluster_run.proofs.run.run_on_shelf.Goals as goal

-- ---- the names

pub format_all-requires-clause-valid : goal.format_all-requires-clause-valid
format_all-requires-clause-valid g c = λ κs within.
    subst (AllByRecursion IsValidNode) (sym c.requires.names) (nodes_are_valid c.args.plan.now.cfg c.requires.valid.cfg)

pub format_all-requires-clause-names : goal.format_all-requires-clause-names
format_all-requires-clause-names g c = λ κs within. subst HaveOwnNames (sym c.requires.names) (nodes_have_own_names c.args.plan.now.cfg)

pub give_back-requires-clause-valid : goal.give_back-requires-clause-valid
give_back-requires-clause-valid g c = λ κs within.
    subst (AllByRecursion IsValidNode) (sym c.requires.names) (nodes_are_valid c.args.plan.now.cfg c.requires.valid.cfg)

pub give_back-requires-clause-names : goal.give_back-requires-clause-names
give_back-requires-clause-names g c = λ κs within. subst HaveOwnNames (sym c.requires.names) (nodes_have_own_names c.args.plan.now.cfg)

-- ---- where not all vaults could be had

pub returns-in_err-vaults-clause-others : goal.returns-in_err-vaults-clause-others
returns-in_err-vaults-clause-others g c = λ name none.
    c.format_all.ensures.others name (subst (λ l. IsNameOfNone l name) (sym c.requires.names) none)

pub returns-in_err-vaults-clause-fault : goal.returns-in_err-vaults-clause-fault
returns-in_err-vaults-clause-fault g c =
    let told = sight g.H.Shelf.faults g.H.Shelf.in_a_row g.H.Shelf.is_out g.H.Shelf.given g.H.Shelf.kept in
    fault_at_error g.H.D.Disk.faults (nodes_of c.args.plan.now.cfg) (told c.args.shelf.now) (told c.format_all.new.shelf) c.in_err-vaults.field-0.0
    c.from_residual.result c.from_residual.ensures.1
    (subst (λ l. IsFaultAmong g.H.D.Disk.faults l (told c.args.shelf.now) (told c.format_all.new.shelf) c.in_err-vaults.field-0.0) c.requires.names
    c.in_err-vaults.ensures.fault)

-- ---- where they could

pub run_nodes-ran-requires-clause-each : goal.run_nodes-ran-requires-clause-each
run_nodes-ran-requires-clause-each g c = λ κs within.
    let told = sight g.H.Shelf.faults g.H.Shelf.in_a_row g.H.Shelf.is_out g.H.Shelf.given g.H.Shelf.kept in
    one_each g.H.D.Disk.faults (told c.args.shelf.now) (told c.format_all.new.shelf) c.args.names.now c.in_ok-vaults.vaults.items c.in_ok-vaults.ensures.out
    ∙ ap length c.requires.names

pub give_back-requires-clause-each : goal.give_back-requires-clause-each
give_back-requires-clause-each g c = λ κs within.
    ap length c.requires.names
    ∙ disk_each any_rules g.H.D.Disk c.args.plan.now c.in_ok-vaults.vaults.items c.run_nodes-ran.result.journals.items c.run_nodes-ran.result.disks.items
    c.run_nodes-ran.result.stop c.run_nodes-ran.ensures.ran

pub give_back-requires-clause-out : goal.give_back-requires-clause-out
give_back-requires-clause-out g c = λ κs within.
    let told = sight g.H.Shelf.faults g.H.Shelf.in_a_row g.H.Shelf.is_out g.H.Shelf.given g.H.Shelf.kept in
    are_out g.H.D.Disk.faults (told c.args.shelf.now) (told c.format_all.new.shelf) c.args.names.now c.in_ok-vaults.vaults.items c.in_ok-vaults.ensures.out

-- ---- where a node was stopped

pub returns-in-Some-clause-others : goal.returns-in-Some-clause-others
returns-in-Some-clause-others g c = λ name none.
    let apart = subst (λ l. IsNameOfNone l name) (sym c.requires.names) none in
    c.give_back.ensures.others name apart ∙ c.format_all.ensures.others name apart

pub returns-in-Some-clause-back : goal.returns-in-Some-clause-back
returns-in-Some-clause-back g c =
    let told = sight g.H.Shelf.faults g.H.Shelf.in_a_row g.H.Shelf.is_out g.H.Shelf.given g.H.Shelf.kept in
    back_on any_rules g.H.D.Disk c.args.plan.now _ _ _ _ c.run_nodes-ran.ensures.ran c.args.names.now c.requires.names
    (told c.args.shelf.now) (told c.format_all.new.shelf) (told c.give_back.new.shelf) c.in_ok-vaults.ensures.out c.give_back.ensures.back

pub returns-in-Some-clause-leaves : goal.returns-in-Some-clause-leaves
returns-in-Some-clause-leaves g c =
    let told = sight g.H.Shelf.faults g.H.Shelf.in_a_row g.H.Shelf.is_out g.H.Shelf.given g.H.Shelf.kept in
    inr (inr (back_with_entries any_rules g.H.D.Disk c.args.plan.now _ _ _ _ c.run_nodes-ran.ensures.ran c.args.names.now c.requires.names
    (told c.args.shelf.now) (told c.format_all.new.shelf) (told c.give_back.new.shelf) c.in_ok-vaults.ensures.out c.give_back.ensures.back))

pub returns-in-Some-clause-fault : goal.returns-in-Some-clause-fault
returns-in-Some-clause-fault g c =
    let told = sight g.H.Shelf.faults g.H.Shelf.in_a_row g.H.Shelf.is_out g.H.Shelf.given g.H.Shelf.kept in
    back_with_fault any_rules g.H.D.Disk c.args.plan.now _ _ _ _ c.run_nodes-ran.ensures.ran c.args.names.now c.requires.names
    (told c.args.shelf.now) (told c.format_all.new.shelf) (told c.give_back.new.shelf) c.in_ok-vaults.ensures.out c.give_back.ensures.back
    c.in-Some.error c.in-Some.is

-- ---- where all went on

pub returns-in-None-clause-journals : goal.returns-in-None-clause-journals
returns-in-None-clause-journals g c =
    let plan = c.args.plan.now in
    let vaults = c.in_ok-vaults.vaults.items in
    let journals = c.run_nodes-ran.result.journals.items in
    let disks = c.run_nodes-ran.result.disks.items in
    run_makes_runs any_rules g.H.D.Disk plan vaults journals disks c.seated_nodes_are_a_run.ensures
    (subst (HaveRun any_rules g.H.D.Disk plan vaults journals disks) c.in-None.is c.run_nodes-ran.ensures.ran)

pub returns-in-None-clause-others : goal.returns-in-None-clause-others
returns-in-None-clause-others g c = λ name none.
    let apart = subst (λ l. IsNameOfNone l name) (sym c.requires.names) none in
    c.give_back.ensures.others name apart ∙ c.format_all.ensures.others name apart

pub returns-in-None-clause-back : goal.returns-in-None-clause-back
returns-in-None-clause-back g c =
    let told = sight g.H.Shelf.faults g.H.Shelf.in_a_row g.H.Shelf.is_out g.H.Shelf.given g.H.Shelf.kept in
    back_on any_rules g.H.D.Disk c.args.plan.now _ _ _ _ c.run_nodes-ran.ensures.ran c.args.names.now c.requires.names
    (told c.args.shelf.now) (told c.format_all.new.shelf) (told c.give_back.new.shelf) c.in_ok-vaults.ensures.out c.give_back.ensures.back

pub returns-in-None-clause-stored : goal.returns-in-None-clause-stored
returns-in-None-clause-stored g c =
    let told = sight g.H.Shelf.faults g.H.Shelf.in_a_row g.H.Shelf.is_out g.H.Shelf.given g.H.Shelf.kept in
    back_with_entries any_rules g.H.D.Disk c.args.plan.now _ _ _ _ c.run_nodes-ran.ensures.ran c.args.names.now c.requires.names
    (told c.args.shelf.now) (told c.format_all.new.shelf) (told c.give_back.new.shelf) c.in_ok-vaults.ensures.out c.give_back.ensures.back
