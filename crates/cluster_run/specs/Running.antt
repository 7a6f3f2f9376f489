-- What a run makes of its nodes, before their disks are given back.
use Rattle.std.specs.Prelude.{◌≡◌, ◌⊎◌, ℕ, List, map, Option, Some, None, Result, Ok, Err, IsTrue}
use Rattle.std.specs.List.{AllByRecursion}
use Rattle.spec_base.specs.declared.disk.Disk.{Ghosts as DiskRules}
use Rattle.spec_base.specs.declared.node.NodeId.{NodeId}
use Rattle.gate_vault.specs.declared.vault.Vault.{Vault}
use Rattle.gate_vault.specs.Vault.{disk_of}
use Rattle.msg_wire.specs.declared.config.Config.{Config}
use Rattle.msg_wire.specs.declared.plan.Plan.{Plan}
use Rattle.msg_wire.specs.Nodes.{nodes_of}
use Rattle.net_model.specs.declared.model.NodeModel.{Ghosts as NodeRules}
use Rattle.net_model.specs.Journals.{IsJournal, OwnSteps, distinct_nodes}
use Rattle.net_model.specs.Merges.{IsMergeOf}
use Rattle.node_actor.specs.declared.actor.NodeActor.{NodeActor}
use Rattle.node_seats.specs.Seats.{Seat, AreSeats, AreSeated, AreGoing, AreSettled, journals_of}
use Rattle.runs.specs.Names.{HistoryEntry}
use Rattle.runs.specs.Runs.{IsRun}
use Rattle.cluster_users.specs.declared.looks.Looks.{Looks}
use Rattle.cluster_drain.specs.declared.drained.Early.{Early}
use Rattle.cluster_drain.specs.declared.drained.Early.TheVariants as early
use Rattle.cluster_run.specs.declared.errors.RunError.{RunError}
use Rattle.cluster_run.specs.Answers.{first_stop, disks_of, no_memory}

module _ {D : Type 0} where
  -- the seats are of these nodes, and their disks had failed so often as the vaults were made
  pub record SeatsOf (disk : DiskRules D) (nodes : List NodeId) (vaults : List (Vault D)) (seats : List Seat) : Type 0 where
    pub names : map (λ (s : Seat). s.name) seats ≡ nodes
    pub counts : map (λ (s : Seat). s.count) seats ≡ map (λ (v : Vault D). disk.faults (disk_of v)) vaults

module _ {N D : Type 0} where
  -- why a run ended: not at all, where all nodes go on; by the first node that was stopped; or by want of memory
  pub record EndedBy (stop : Option RunError) (actors : List (NodeActor N D)) : Type 0 where
    pub going : stop ≡ None → AreGoing actors
    pub cause : (error : RunError) → stop ≡ Some error → (first_stop actors ≡ Some error) ⊎ (error ≡ no_memory)

  -- the nodes of a plan have run on these vaults: these are the journals and the disks of nodes at seats, whose links are settled
  pub record HaveRun (rules : NodeRules N) (disk : DiskRules D) (plan : Plan) (vaults : List (Vault D)) (journals : List OwnSteps) (disks : List D)
      (stop : Option RunError) : Type 0 where
    pub seats : List Seat
    pub actors : List (NodeActor N D)
    pub are : AreSeats plan.cfg seats
    pub of : SeatsOf disk (nodes_of plan.cfg) vaults seats
    pub seated : AreSeated rules disk seats actors
    pub settled : AreSettled actors
    pub journals_are : journals ≡ journals_of actors
    pub disks_are : disks ≡ disks_of actors
    pub ended : EndedBy stop actors

-- why nodes have no history: by the first that was stopped, or else since the drain wanted memory
abbrev pub cause_of : Option RunError → Option Early → Option RunError
cause_of (Some error) cut = Some error
cause_of None (Some early.Memory) = Some no_memory
cause_of None _ = None

-- why a run has no history: by what its nodes say, or else since memory was wanted
abbrev pub first_of : {T E : Type 0} → Option RunError → Result T E → Option RunError
first_of (Some error) followed = Some error
first_of None (Err e) = Some no_memory
first_of None (Ok done) = None

-- each reader's looks, by its consumer
abbrev pub consumers_in : List Looks → List ℕ
consumers_in = map (λ (looks : Looks). looks.consumer)

-- journals of distinct nodes, whose merge is a run
pub record MakeRuns (cfg : Config) (journals : List OwnSteps) : Type 0 where
  pub distinct : IsTrue (distinct_nodes journals)
  pub runs : (history : List HistoryEntry) → AllByRecursion IsJournal journals → IsMergeOf journals history → IsRun cfg history
