-- What the shelf tells once all disks are back: a node that was stopped by its disk names a fault, and each disk has entries that decode.
use Rattle.std.proofs.Common.{◌≡◌, inl, inr, ℕ, zero, suc, List, [], ◌∷◌, Option, Some, None}
use Rattle.std.proofs.Common.{refl, sym, ap, ◌∙◌, subst, arith}
use Rattle.std.proofs.lemmas.Option.{same_Some, none-some}
use Rattle.spec_base.specs.declared.disk.Disk.{Ghosts as DiskRules}
use Rattle.spec_base.specs.declared.node.NodeId.{NodeId}
use Rattle.spec_base.specs.Spelling.{node_name}
use Rattle.gate_vault.specs.declared.vault.Vault.{Vault}
use Rattle.gate_vault.specs.Put.{FailedTwice}
use Rattle.gate_vault.specs.Vault.{disk_of}
use Rattle.net_model.specs.declared.model.NodeModel.{Ghosts as NodeRules}
use Rattle.node_actor.specs.declared.actor.NodeActor.{NodeActor}
use Rattle.node_actor.specs.declared.stopped.Stopped.{Stopped}
use Rattle.node_actor.specs.declared.stopped.Stopped.TheVariants as stops
use Rattle.node_actor.specs.Stores.{disk_in}
use Rattle.node_seats.specs.Seats.{Seat, AreSeated}
use Rattle.shelf_vaults.proofs.Counts.{failed_there}
use Rattle.shelf_vaults.specs.Sights.{Sight, IsOutAs, IsBackAs, FailedThere, IsNoFall, EachWith, AreOn}
use Rattle.cluster_run.specs.declared.errors.RunError.{RunError}
use Rattle.cluster_run.specs.declared.errors.RunError.TheVariants as errors
use Rattle.cluster_run.specs.Answers.{first_stop, stop_or, disks_of, IsRunFault, AllHaveEntries}
use Rattle.cluster_run.specs.Running.{SeatsOf}

module _ {D : Type 0} (faults in_a_row : D → ℕ) where
  -- a disk that failed twice after its vault was made, and came back
  twice_there : (old out back : Sight D) (vault : Vault D) (disk : D) → IsOutAs faults old out vault → IsBackAs faults in_a_row out back disk
      → FailedTwice (faults (disk_of vault)) (faults disk) (in_a_row disk) → FailedThere faults old back
  twice_there old out back vault disk made came twice = counted made.no_fall where
    since_given : FailedTwice out.given (faults disk) (in_a_row disk)
    since_given = record {
      rose = elim twice.rose [
        | inl up ↦ inl (omega (arith, up, made.given))
        | inr end ↦ inr end
      ];
      in_a_row = twice.in_a_row;
    }

    counted : IsNoFall old.faults out.faults → FailedThere faults old back
    counted (inl kept) = failed_there faults old back out.faults out.given (in_a_row disk) disk kept came.count came.row came.kept since_given
    counted (inr full) = record { rose = inr (inl (omega (arith, full, came.count))); in_a_row = came.row ∙ twice.in_a_row }

  -- all disks are on the shelf
  pub all_on : (out back : List ℕ → Sight D) (nodes : List NodeId) (disks : List D) → EachWith (IsBackAs faults in_a_row) out back nodes disks
      → AreOn back nodes
  all_on out back [] [] each = tt
  all_on out back [] (d ∷ ds) each = absurd each
  all_on out back (node ∷ nodes) [] each = absurd each
  all_on out back (node ∷ nodes) (d ∷ ds) each = (each.0.on_shelf, all_on out back nodes ds each.1)

-- a fault among later nodes is one among all
among_later : {D : Type 0} (faults : D → ℕ) (node : NodeId) (nodes : List NodeId) (old back : List ℕ → Sight D) (error : RunError)
    → IsRunFault faults nodes old back error → IsRunFault faults (node ∷ nodes) old back error
among_later faults node nodes old back (errors.ShelfFault name) (there, failed) = ((suc there.0, omega (arith, there.1), there.2), failed)
among_later faults node nodes old back errors.OutOfMemory fault = tt

module _ {N D : Type 0} (rules : NodeRules N) (disk : DiskRules D) where
  -- the first node that was stopped by its disk names a fault
  pub stop_is_fault : (nodes : List NodeId) (vaults : List (Vault D)) (seats : List Seat) (actors : List (NodeActor N D)) (old out back : List ℕ → Sight D)
      (error : RunError) → SeatsOf disk nodes vaults seats → AreSeated rules disk seats actors → EachWith (IsOutAs disk.faults) old out nodes vaults
      → EachWith (IsBackAs disk.faults disk.in_a_row) out back nodes (disks_of actors) → first_stop actors ≡ Some error
      → IsRunFault disk.faults nodes old back error
  stop_is_fault nodes vaults seats [] old out back error of seated made came stop = absurd (none-some error stop)
  stop_is_fault nodes vaults [] (a ∷ others) old out back error of seated made came stop = absurd seated
  stop_is_fault [] vaults (s ∷ ss) (a ∷ others) old out back error of seated made came stop = absurd came
  stop_is_fault (node ∷ nodes) [] (s ∷ ss) (a ∷ others) old out back error of seated made came stop = absurd made
  stop_is_fault (node ∷ nodes) (v ∷ vs) (s ∷ ss) (a ∷ others) old out back error of seated made came stop =
      first_is_fault a.stopped refl stop (stop_is_fault nodes vs ss others old out back error (record { names = cc; counts = cc }) seated.1 made.1 came.1) where
        name_is : a.core.name ≡ node
        name_is = seated.0.name ∙ cc

        count_is : s.count ≡ disk.faults (disk_of v)
        count_is = cc

        first_is_fault : (stopped : Option Stopped) → a.stopped ≡ stopped → stop_or a.core.name a.stopped (first_stop others) ≡ Some error
            → (first_stop others ≡ Some error → IsRunFault disk.faults nodes old back error) → IsRunFault disk.faults (node ∷ nodes) old back error
        first_is_fault None is stop later =
            let stop' : first_stop others ≡ Some error = ap (λ st. stop_or a.core.name st (first_stop others)) (sym is) ∙ stop in
            among_later disk.faults node nodes old back error (later stop')
        first_is_fault (Some stops.Disk) is stop later =
            let error_is : errors.ShelfFault node ≡ error =
            ap errors.ShelfFault (sym name_is) ∙ same_Some _ _ (ap (λ st. stop_or a.core.name st (first_stop others)) (sym is) ∙ stop) in
            let twice = subst (λ n. FailedTwice n (disk.faults (disk_in a.core.store)) (disk.in_a_row (disk_in a.core.store))) count_is (seated.0.faulty is) in
            let there : IsRunFault disk.faults (node ∷ nodes) old back (errors.ShelfFault node) = (
              (zero, omega arith, refl),
              twice_there disk.faults disk.in_a_row (old (node_name node)) (out (node_name node)) (back (node_name node)) v (disk_in a.core.store) made.0
                  came.0 twice,
            ) in
            subst (IsRunFault disk.faults (node ∷ nodes) old back) error_is there
        first_is_fault (Some stops.Memory) is stop later =
            subst (IsRunFault disk.faults (node ∷ nodes) old back) (same_Some _ _ (ap (λ st. stop_or a.core.name st (first_stop others)) (sym is) ∙ stop)) tt

  -- each disk has entries that decode
  pub all_have_entries : (nodes : List NodeId) (seats : List Seat) (actors : List (NodeActor N D)) (out back : List ℕ → Sight D)
      → AreSeated rules disk seats actors → EachWith (IsBackAs disk.faults disk.in_a_row) out back nodes (disks_of actors)
      → AllHaveEntries disk.seen nodes back
  all_have_entries [] seats actors out back seated came = tt
  all_have_entries (node ∷ nodes) seats [] out back seated came = absurd came
  all_have_entries (node ∷ nodes) [] (a ∷ others) out back seated came = absurd seated
  all_have_entries (node ∷ nodes) (s ∷ ss) (a ∷ others) out back seated came = (
    record { disk = disk_in a.core.store; kept = came.0.kept; tells = seated.0.tells },
    all_have_entries nodes ss others out back seated.1 came.1,
  )
