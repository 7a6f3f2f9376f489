-- What an entry leaves of each node.
use Rattle.std.proofs.Common.{◌≡◌, true, false, ◌∷◌, refl, ap}
use Rattle.world.specs.inside.Names.{same_node, IsValidConfig, IsNodeOf, Past, Node, sequencer_step, replica_step, client_step, any_meaning, consumer_step, NodeId}
use Rattle.world.specs.inside.Names.{Config, Event, HistoryEntry, IsPastOf}
use Rattle.app_law.specs.declared.any_app.AnyApp.{AnyApp}
use Rattle.seq_node.specs.States.{SequencerState}
use Rattle.seq_node.specs.Restart as sequencer
use Rattle.shard_node.specs.States.{ReplicaState}
use Rattle.shard_node.specs.Restart as replica
use Rattle.client_node.specs.States.{ClientState}
use Rattle.client_node.specs.Restart as client
use Rattle.consumer_node.specs.States.{ConsumerState}
use Rattle.consumer_node.specs.Restart as consumer
use Rattle.world.specs.declared.any_node.AnyNode.TheVariants as any
use Rattle.runs.specs.Names.nodes
use Rattle.runs.specs.Kinds.{sequencer_table, replica_table, client_table, consumer_table, step_at}
use Rattle.world.specs.AnyNodes.{ready, gives_any, leaves_any, is_spent_any, node_after}
use Rattle.runs.proofs.Restarts.{events_valid, sequencer_in_place, replica_in_place, client_in_place, consumer_in_place}
use Rattle.runs.proofs.InPlace.{own_step, other_step}

-- ---- what an entry leaves

-- of its own node what the step leaves
pub own_after : (cfg : Config) (node : NodeId) (e : HistoryEntry) (past : Past) → IsValidConfig cfg → IsNodeOf cfg node → IsPastOf cfg past
    → same_node e.node node ≡ true
    → node_after cfg (e ∷ past) node ≡ leaves_any (node_after cfg past node) e.event
own_after cfg (nodes.Seq n) e past valid here run own =
    let node : NodeId = nodes.Seq n in
    ap (λ (s : Node SequencerState). any.Seq (ready s))
    (own_step sequencer_step (sequencer.fresh_node cfg node) (sequencer.restart_of cfg node) node e past (sequencer_in_place cfg node valid here) (events_valid cfg node past run) own)
own_after cfg (nodes.Shard n side) e past valid here run own =
    let node : NodeId = nodes.Shard n side in
    ap (λ (s : Node ReplicaState). any.Shard (ready s))
    (own_step replica_step (replica.fresh_node cfg node) (replica.restart_of cfg node) node e past (replica_in_place cfg node valid here) (events_valid cfg node past run) own)
own_after cfg (nodes.Client n) e past valid here run own =
    let node : NodeId = nodes.Client n in
    ap (λ (s : Node ClientState). any.Client (ready s))
    (own_step client_step (client.fresh_node cfg node) (client.restart_of cfg node) node e past (client_in_place cfg node) (events_valid cfg node past run) own)
own_after cfg (nodes.Consumer n) e past valid here run own =
    let node : NodeId = nodes.Consumer n in
    ap (λ (s : Node (ConsumerState AnyApp)). any.Consumer (ready s))
    (own_step (consumer_step any_meaning) (consumer.fresh_node any_meaning cfg node) (consumer.restart_of any_meaning cfg node) node e past (consumer_in_place cfg node valid here) (events_valid cfg node past run) own)

-- of another node what was
pub other_after : (cfg : Config) (node : NodeId) (e : HistoryEntry) (past : Past) → same_node e.node node ≡ false
    → node_after cfg (e ∷ past) node ≡ node_after cfg past node
other_after cfg (nodes.Seq n) e past other =
    ap (λ (s : Node SequencerState). any.Seq (ready s)) (other_step (sequencer_table cfg (nodes.Seq n)) (nodes.Seq n) e past other)
other_after cfg (nodes.Shard n side) e past other =
    ap (λ (s : Node ReplicaState). any.Shard (ready s)) (other_step (replica_table cfg (nodes.Shard n side)) (nodes.Shard n side) e past other)
other_after cfg (nodes.Client n) e past other =
    ap (λ (s : Node ClientState). any.Client (ready s)) (other_step (client_table cfg (nodes.Client n)) (nodes.Client n) e past other)
other_after cfg (nodes.Consumer n) e past other =
    ap (λ (s : Node (ConsumerState AnyApp)). any.Consumer (ready s)) (other_step (consumer_table cfg (nodes.Consumer n)) (nodes.Consumer n) e past other)

-- a node gives what its table says
pub gives_after : (cfg : Config) (node : NodeId) (past : Past) (event : Event) → gives_any (node_after cfg past node) event ≡ step_at cfg node past event
gives_after cfg (nodes.Seq n) past event = refl
gives_after cfg (nodes.Shard n side) past event = refl
gives_after cfg (nodes.Client n) past event = refl
gives_after cfg (nodes.Consumer n) past event = refl

-- and is not spent
pub ready_after : (cfg : Config) (node : NodeId) (past : Past) → is_spent_any (node_after cfg past node) ≡ false
ready_after cfg (nodes.Seq n) past = refl
ready_after cfg (nodes.Shard n side) past = refl
ready_after cfg (nodes.Client n) past = refl
ready_after cfg (nodes.Consumer n) past = refl
