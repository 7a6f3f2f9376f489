-- The step tables of the four kinds of node, and what the entries of a past leave of each node.
use Rattle.std.specs.Prelude.{ℕ, List}
use Rattle.net_model.specs.Pasts.{Past}
use Rattle.net_model.specs.Tables.{StepTable, items_of, state_of}
use Rattle.node_rules.specs.Nodes.{Node}
use Rattle.node_rules.specs.Turns.{Turn, step_of}
use Rattle.seq_node.specs.States.{SequencerState}
use Rattle.seq_node.specs.Steps.{sequencer_step}
use Rattle.seq_node.specs.Restart as sequencer
use Rattle.shard_node.specs.States.{ReplicaState}
use Rattle.shard_node.specs.Steps.{replica_step}
use Rattle.shard_node.specs.Restart as replica
use Rattle.client_node.specs.States.{ClientState}
use Rattle.client_node.specs.Steps.{client_step}
use Rattle.client_node.specs.Restart as client
use Rattle.app_law.specs.declared.any_app.AnyApp.{AnyApp}
use Rattle.consumer_node.specs.Apps.{any_meaning}
use Rattle.consumer_node.specs.States.{ConsumerState}
use Rattle.consumer_node.specs.Steps.{consumer_step}
use Rattle.consumer_node.specs.Restart as consumer
use Rattle.runs.specs.Names.{NodeId, Side, Config, Item, Event, Step}
use Rattle.runs.specs.Names.nodes

-- ---- the table of each kind, at a node

-- of how a node of the kind begins, what its vault gives, and its steps
abbrev pub table_of : {S : Type 0} → Node S → (List Item → Node S) → (Node S → Event → Turn S) → StepTable (Node S)
table_of fresh restart step = record {
  fresh = fresh;
  restart = restart;
  gives = λ n event. step_of (step n event);
  leaves = λ n event. (step n event).state;
}

abbrev pub sequencer_table : Config → NodeId → StepTable (Node SequencerState)
sequencer_table cfg node = table_of (sequencer.fresh_node cfg node) (sequencer.restart_of cfg node) sequencer_step

abbrev pub replica_table : Config → NodeId → StepTable (Node ReplicaState)
replica_table cfg node = table_of (replica.fresh_node cfg node) (replica.restart_of cfg node) replica_step

abbrev pub client_table : Config → NodeId → StepTable (Node ClientState)
client_table cfg node = table_of (client.fresh_node cfg node) (client.restart_of cfg node) client_step

abbrev pub consumer_table : Config → NodeId → StepTable (Node (ConsumerState AnyApp))
consumer_table cfg node = table_of (consumer.fresh_node any_meaning cfg node) (consumer.restart_of any_meaning cfg node) (consumer_step any_meaning)

-- ---- a node's state so far

abbrev pub sequencer_after : Config → ℕ → Past → Node SequencerState
sequencer_after cfg number past = state_of (sequencer_table cfg (nodes.Seq number)) (nodes.Seq number) past

abbrev pub replica_after : Config → ℕ → Side → Past → Node ReplicaState
replica_after cfg shard side past = state_of (replica_table cfg (nodes.Shard shard side)) (nodes.Shard shard side) past

abbrev pub client_after : Config → ℕ → Past → Node ClientState
client_after cfg number past = state_of (client_table cfg (nodes.Client number)) (nodes.Client number) past

abbrev pub consumer_after : Config → ℕ → Past → Node (ConsumerState AnyApp)
consumer_after cfg number past = state_of (consumer_table cfg (nodes.Consumer number)) (nodes.Consumer number) past

-- ---- any node: its stable items so far, and what a step of it would store, send and show

abbrev pub items_at : Config → NodeId → Past → List Item
items_at cfg (nodes.Seq number) past = items_of (sequencer_table cfg (nodes.Seq number)) (nodes.Seq number) past
items_at cfg (nodes.Shard shard side) past = items_of (replica_table cfg (nodes.Shard shard side)) (nodes.Shard shard side) past
items_at cfg (nodes.Client number) past = items_of (client_table cfg (nodes.Client number)) (nodes.Client number) past
items_at cfg (nodes.Consumer number) past = items_of (consumer_table cfg (nodes.Consumer number)) (nodes.Consumer number) past

abbrev pub step_at : Config → NodeId → Past → Event → Step
step_at cfg (nodes.Seq number) past event = (sequencer_table cfg (nodes.Seq number)).gives (sequencer_after cfg number past) event
step_at cfg (nodes.Shard shard side) past event = (replica_table cfg (nodes.Shard shard side)).gives (replica_after cfg shard side past) event
step_at cfg (nodes.Client number) past event = (client_table cfg (nodes.Client number)).gives (client_after cfg number past) event
step_at cfg (nodes.Consumer number) past event = (consumer_table cfg (nodes.Consumer number)).gives (consumer_after cfg number past) event
