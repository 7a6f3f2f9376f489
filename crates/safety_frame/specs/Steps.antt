-- In every run an entry leaves its node what the node's table makes of its state, a restart too, though that is defined by the items alone.
use Rattle.std.specs.Prelude.{◌≡◌, ◌∷◌}
use Rattle.msg_wire.specs.Valid.{IsValidConfig}
use Rattle.net_model.specs.Pasts.{Past}
use Rattle.seq_node.specs.Steps.{sequencer_step}
use Rattle.shard_node.specs.Steps.{replica_step}
use Rattle.client_node.specs.Steps.{client_step}
use Rattle.consumer_node.specs.Apps.{any_meaning}
use Rattle.consumer_node.specs.Steps.{consumer_step}
use Rattle.runs.specs.Names.{NodeId, Config, HistoryEntry}
use Rattle.runs.specs.Names.nodes
use Rattle.runs.specs.Runs.{IsPastOf}
use Rattle.runs.specs.Kinds.{sequencer_after, replica_after, client_after, consumer_after}

abbrev pub LeavesItsStep : Config → HistoryEntry → Past → NodeId → Type 0
LeavesItsStep cfg e past (nodes.Seq number) = sequencer_after cfg number (e ∷ past) ≡ (sequencer_step (sequencer_after cfg number past) e.event).state
LeavesItsStep cfg e past (nodes.Shard shard side) = replica_after cfg shard side (e ∷ past) ≡ (replica_step (replica_after cfg shard side past) e.event).state
LeavesItsStep cfg e past (nodes.Client number) = client_after cfg number (e ∷ past) ≡ (client_step (client_after cfg number past) e.event).state
LeavesItsStep cfg e past (nodes.Consumer number) =
    consumer_after cfg number (e ∷ past) ≡ (consumer_step any_meaning (consumer_after cfg number past) e.event).state

abbrev pub StepsLeaveStates : Type 0
StepsLeaveStates = (cfg : Config) (e : HistoryEntry) (past : Past) → IsValidConfig cfg → IsPastOf cfg (e ∷ past) → LeavesItsStep cfg e past e.node
