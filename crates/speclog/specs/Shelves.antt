-- What a command leaves on the shelf.
use Rattle.std.specs.Prelude.{◌≡◌, ◌⊎◌, ⊤, ℕ, List, Contains, Option, Some, None}
use Rattle.spec_base.specs.declared.node.NodeId.{NodeId}
use Rattle.spec_base.specs.Spelling.{node_name}
use Rattle.shelf_vaults.specs.Sights.{Sight, AreOn, FailedThere, IsNameOfNone}
use Rattle.msg_wire.specs.Nodes.{nodes_of}
use Rattle.script_text.specs.Names.{Plan}
use Rattle.script_text.specs.Plans.{SpellsPlan}
use Rattle.cluster_run.specs.Answers.{AllHaveEntries, LeavesEntries}
use Rattle.speclog.specs.declared.fault.Fault.{Fault}
use Rattle.speclog.specs.declared.fault.Fault.TheVariants.{ShelfFault, OutOfMemory, WriteFault}

-- a shelf before a command and after it: what it tells of each name
pub record Shelving (D : Type 0) : Type 0 where
  pub before : List ℕ → Sight D
  pub after : List ℕ → Sight D

module _ {D : Type 0} where
  -- where there is a history the disk of each node has entries that decode; where there is none nothing was done, or not all vaults could be had,
  -- or each has
  abbrev pub Stores : (D → Option (List ℕ)) → List NodeId → Option Fault → Shelving D → Type 0
  Stores seen nodes None shelf = AllHaveEntries seen nodes shelf.after
  Stores seen nodes (Some WriteFault) shelf = AllHaveEntries seen nodes shelf.after
  Stores seen nodes (Some fault) shelf = LeavesEntries seen nodes shelf.before shelf.after

  -- a fault of the shelf is of one of the nodes, whose disk failed twice, one after the other
  abbrev pub BlamesDisk : (D → ℕ) → List NodeId → Option Fault → Shelving D → Type 0
  BlamesDisk faults nodes (Some (ShelfFault name)) shelf =
      Contains nodes name × FailedThere faults (shelf.before (node_name name)) (shelf.after (node_name name))
  BlamesDisk faults nodes _ shelf = ⊤

  -- the disks of these nodes were used, and lie on the shelf again; other names are as they were
  pub record UsesDisks (seen : D → Option (List ℕ)) (faults : D → ℕ) (nodes : List NodeId) (fault : Option Fault) (shelf : Shelving D) : Type 0 where
    pub back : AreOn shelf.after nodes
    pub others : (name : List ℕ) → IsNameOfNone nodes name → shelf.after name ≡ shelf.before name
    pub stored : Stores seen nodes fault shelf
    pub blamed : BlamesDisk faults nodes fault shelf

  -- an input spells a plan, whose nodes' disks were used
  pub record RunsOnDisks (seen : D → Option (List ℕ)) (faults : D → ℕ) (input : List ℕ) (fault : Option Fault) (shelf : Shelving D) : Type 0 where
    pub plan : Plan
    pub spelled : SpellsPlan input plan
    pub uses : UsesDisks seen faults (nodes_of plan.cfg) fault shelf

  -- what became of the shelf: at a history and at its own fault the disks of the plan's nodes were used; where memory was refused they were or
  -- the shelf is the same; and it is the same at any other answer
  abbrev pub Shelves : (D → Option (List ℕ)) → (D → ℕ) → List ℕ → Option Fault → Shelving D → Type 0 → Type 0
  Shelves seen faults input None shelf same = RunsOnDisks seen faults input None shelf
  Shelves seen faults input (Some WriteFault) shelf same = RunsOnDisks seen faults input (Some WriteFault) shelf
  Shelves seen faults input (Some (ShelfFault name)) shelf same = RunsOnDisks seen faults input (Some (ShelfFault name)) shelf
  Shelves seen faults input (Some OutOfMemory) shelf same = same ⊎ RunsOnDisks seen faults input (Some OutOfMemory) shelf
  Shelves seen faults input (Some _) shelf same = same
