-- What a run answers: by the first node that was stopped, and by what the shelf then tells.
use Rattle.std.specs.Prelude.{◌≡◌, ◌⊎◌, ⊤, ℕ, List, [], ◌∷◌, map, Option, Some, None, Contains}
use Rattle.std.specs.List.{AllByRecursion}
use Rattle.spec_base.specs.declared.node.NodeId.{NodeId}
use Rattle.spec_base.specs.Spelling.{node_name}
use Rattle.node_actor.specs.declared.actor.NodeActor.{NodeActor}
use Rattle.node_actor.specs.declared.stopped.Stopped.{Stopped}
use Rattle.node_actor.specs.declared.stopped.Stopped.TheVariants as stops
use Rattle.node_actor.specs.Stores.{disk_in, TellsItems}
use Rattle.shelf_vaults.specs.declared.errors.ShelfError.{ShelfError}
use Rattle.shelf_vaults.specs.declared.errors.ShelfError.TheVariants as shelf_errors
use Rattle.shelf_vaults.specs.Sights.{Sight, FailedThere, BreaksOff}
use Rattle.cluster_run.specs.declared.errors.RunError.{RunError}
use Rattle.cluster_run.specs.declared.errors.RunError.TheVariants as errors

-- ---- why there is no history

abbrev pub no_memory : RunError
no_memory = errors.OutOfMemory

abbrev pub error_of : ShelfError → RunError
error_of (shelf_errors.Fault name) = errors.ShelfFault name
error_of shelf_errors.OutOfMemory = errors.OutOfMemory

-- why a node was stopped, if it was; else what comes of the others
abbrev pub stop_or : NodeId → Option Stopped → Option RunError → Option RunError
stop_or name None others = others
stop_or name (Some stops.Disk) others = Some (errors.ShelfFault name)
stop_or name (Some stops.Memory) others = Some errors.OutOfMemory

module _ {N D : Type 0} where
  -- what the first node that was stopped says
  abbrev pub first_stop : List (NodeActor N D) → Option RunError
  first_stop [] = None
  first_stop (actor ∷ actors) = stop_or actor.core.name actor.stopped (first_stop actors)

  abbrev pub disks_of : List (NodeActor N D) → List D
  disks_of = map (λ (actor : NodeActor N D). disk_in actor.core.store)

-- ---- and what the shelf then tells

module _ {D : Type 0} where
  -- a fault is of one of the nodes: its disk failed twice, one after the other
  abbrev pub IsRunFault : (D → ℕ) → List NodeId → (List ℕ → Sight D) → (List ℕ → Sight D) → RunError → Type 0
  IsRunFault faults nodes old new (errors.ShelfFault name) = Contains nodes name × FailedThere faults (old (node_name name)) (new (node_name name))
  IsRunFault faults nodes old new errors.OutOfMemory = ⊤

  -- the disk of a node lies on the shelf, and its file stands for entries that decode
  pub record HasEntries (seen : D → Option (List ℕ)) (now : Sight D) : Type 0 where
    pub disk : D
    pub kept : now.kept ≡ Some disk
    pub tells : TellsItems (seen disk)

  abbrev pub AllHaveEntries : (D → Option (List ℕ)) → List NodeId → (List ℕ → Sight D) → Type 0
  AllHaveEntries seen nodes now = AllByRecursion (λ (node : NodeId). HasEntries seen (now (node_name node))) nodes

  -- where a run has no history: nothing was done, or not all vaults could be had, or each disk has entries that decode
  abbrev pub LeavesEntries : (D → Option (List ℕ)) → List NodeId → (List ℕ → Sight D) → (List ℕ → Sight D) → Type 0
  LeavesEntries seen nodes old new =
      AllByRecursion (λ (node : NodeId). new (node_name node) ≡ old (node_name node)) nodes ⊎ BreaksOff seen nodes old new ⊎ AllHaveEntries seen nodes new
