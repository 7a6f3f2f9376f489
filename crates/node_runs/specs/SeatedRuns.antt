-- Nodes of a run at their seats: when the merge of their journals is a run.
use Rattle.std.specs.Prelude.{List}
use Rattle.std.specs.List.{AllByRecursion}
use Rattle.spec_base.specs.declared.disk.Disk.{Ghosts as DiskRules}
use Rattle.net_model.specs.declared.model.NodeModel.{Ghosts as NodeRules}
use Rattle.net_model.specs.Journals.{IsJournal}
use Rattle.net_model.specs.Merges.{IsMergeOf}
use Rattle.node_actor.specs.declared.actor.NodeActor.{NodeActor}
use Rattle.node_seats.specs.Seats.{Seat, AreSeats, AreSeated, AreGoing, AreSettled, journals_of}
use Rattle.runs.specs.Names.{Config, HistoryEntry}
use Rattle.runs.specs.Runs.{IsRun}
use Rattle.world.specs.declared.any_node.AnyNode.{AnyNode}

-- the merge of the journals of all nodes of a cluster is a run, once no node is stopped and all links are settled
abbrev pub SeatedNodesMakeRuns : {D : Type 0} → NodeRules AnyNode → DiskRules D → Type 0
SeatedNodesMakeRuns {D = D} rules disk =
    (cfg : Config) (seats : List Seat) (actors : List (NodeActor AnyNode D)) (history : List HistoryEntry) → AreSeats cfg seats
    → AreSeated rules disk seats actors → AreGoing actors → AreSettled actors → AllByRecursion IsJournal (journals_of actors)
    → IsMergeOf (journals_of actors) history → IsRun cfg history
