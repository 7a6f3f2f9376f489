-- What a run has made once all disks are back: of the shelf, whatever ended it, and of the journals.
use Rattle.std.proofs.Common.{◌≡◌, inl, inr, ℕ, List, length, Option, Some, Result, IfErr, sym, ap, ◌∙◌, subst}
use Rattle.std.specs.Result.{IsErrAnd}
use Rattle.std.proofs.lemmas.List.{length-map}
use Rattle.std.proofs.lemmas.Result.{err_from_is_err_and}
use Rattle.spec_base.specs.declared.disk.Disk.{Ghosts as DiskRules}
use Rattle.spec_base.specs.declared.node.NodeId.{NodeId}
use Rattle.gate_vault.specs.declared.vault.Vault.{Vault}
use Rattle.msg_wire.specs.declared.plan.Plan.{Plan}
use Rattle.msg_wire.specs.Nodes.{nodes_of}
use Rattle.net_model.specs.declared.model.NodeModel.{Ghosts as NodeRules}
use Rattle.net_model.specs.Journals.{OwnSteps}
use Rattle.node_actor.specs.Stores.{disk_in}
use Rattle.node_seats.proofs.Zips.{zip_length}
use Rattle.node_seats.specs.Seats.{IsSeated}
use Rattle.shelf_vaults.specs.declared.errors.ShelfError.{ShelfError}
use Rattle.shelf_vaults.specs.declared.errors.ShelfError.TheVariants as shelf_errors
use Rattle.shelf_vaults.specs.Sights.{Sight, AreOn, EachWith, IsBackAs, IsFaultAmong, IsOutAs}
use Rattle.cluster_run.specs.declared.errors.RunError.{RunError}
use Rattle.cluster_run.specs.Answers.{AllHaveEntries, IsRunFault, disks_of, error_of, no_memory}
use Rattle.cluster_run.specs.Running.{HaveRun}
use Rattle.cluster_run.proofs.Faults.{all_have_entries, all_on, stop_is_fault}

-- a fault of the shelf is one of a run
pub run_fault_of : {D : Type 0} (faults : D → ℕ) (nodes : List NodeId) (old new : List ℕ → Sight D) (error : ShelfError)
    → IsFaultAmong faults nodes old new error → IsRunFault faults nodes old new (error_of error)
run_fault_of faults nodes old new (shelf_errors.Fault name) fault = fault
run_fault_of faults nodes old new shelf_errors.OutOfMemory fault = tt

-- and is what a run that ends by it answers
pub fault_at_error : {T D : Type 0} (faults : D → ℕ) (nodes : List NodeId) (old new : List ℕ → Sight D) (error : ShelfError) (answer : Result T RunError)
    → IsErrAnd answer (λ e. e ≡ error_of error) → IsFaultAmong faults nodes old new error → IfErr answer (IsRunFault faults nodes old new)
fault_at_error faults nodes old new error answer is fault =
    let p = err_from_is_err_and answer is in
    subst (λ r. IfErr r (IsRunFault faults nodes old new)) (sym p.1)
    (subst (IsRunFault faults nodes old new) (sym p.2) (run_fault_of faults nodes old new error fault))

module _ {N D : Type 0} (rules : NodeRules N) (disk : DiskRules D) (plan : Plan) (vaults : List (Vault D)) (journals : List OwnSteps) (disks : List D)
    (stop : Option RunError) (ran : HaveRun rules disk plan vaults journals disks stop) where
  -- there is a disk for each node
  pub disk_each : length (nodes_of plan.cfg) ≡ length disks
  disk_each =
      let seats : length ran.seats ≡ length (nodes_of plan.cfg) = sym (length-map ran.seats (λ s. s.name)) ∙ ap length ran.of.names in
      let actors = zip_length (IsSeated rules disk) ran.seats ran.actors ran.seated in
      let taken : length disks ≡ length ran.actors = ap length ran.disks_are ∙ length-map ran.actors (λ a. disk_in a.core.store) in
      sym seats ∙ actors ∙ sym taken

  -- the disks went out at the nodes' names, and came back there
  module _ (names : List NodeId) (same : names ≡ nodes_of plan.cfg) (old out back : List ℕ → Sight D)
      (made : EachWith (IsOutAs disk.faults) old out names vaults) (came : EachWith (IsBackAs disk.faults disk.in_a_row) out back names disks) where
    came_all : EachWith (IsBackAs disk.faults disk.in_a_row) out back (nodes_of plan.cfg) (disks_of ran.actors)
    came_all =
        subst (λ l. EachWith (IsBackAs disk.faults disk.in_a_row) out back l (disks_of ran.actors)) same
        (subst (EachWith (IsBackAs disk.faults disk.in_a_row) out back names) ran.disks_are came)

    pub back_on : AreOn back (nodes_of plan.cfg)
    back_on = all_on disk.faults disk.in_a_row out back (nodes_of plan.cfg) (disks_of ran.actors) came_all

    pub back_with_entries : AllHaveEntries disk.seen (nodes_of plan.cfg) back
    back_with_entries = all_have_entries rules disk (nodes_of plan.cfg) ran.seats ran.actors out back ran.seated came_all

    pub back_with_fault : (error : RunError) → stop ≡ Some error → IsRunFault disk.faults (nodes_of plan.cfg) old back error
    back_with_fault error is =
        let made_all = subst (λ l. EachWith (IsOutAs disk.faults) old out l vaults) same made in
        elim (ran.ended.cause error is) [
          | inl first ↦ stop_is_fault rules disk (nodes_of plan.cfg) vaults ran.seats ran.actors old out back error ran.of ran.seated made_all came_all first
          | inr none ↦ subst (IsRunFault disk.faults (nodes_of plan.cfg) old back) (sym none) tt
        ]

-- want of memory is no fault of a disk
pub memory_at_error : {T D : Type 0} (faults : D → ℕ) (nodes : List NodeId) (old new : List ℕ → Sight D) (answer : Result T RunError)
    → IsErrAnd answer (λ e. e ≡ no_memory) → IfErr answer (IsRunFault faults nodes old new)
memory_at_error faults nodes old new answer is =
    let p = err_from_is_err_and answer is in
    subst (λ r. IfErr r (IsRunFault faults nodes old new)) (sym p.1) (subst (IsRunFault faults nodes old new) (sym p.2) tt)
