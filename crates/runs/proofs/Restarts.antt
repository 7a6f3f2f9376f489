-- The events of a run are valid, and each kind of node restarts in place.
use Rattle.std.proofs.Common.{Bool, true, false, List, [], ◌∷◌}
use Rattle.std.specs.List.{AllByRecursion}
use Rattle.msg_wire.specs.Nodes.{same_node}
use Rattle.msg_wire.specs.Valid.{IsValidConfig, IsNodeOf, IsValidEvent}
use Rattle.net_model.specs.Pasts.{Past}
use Rattle.seq_node.specs.Steps.{sequencer_step}
use Rattle.seq_node.specs.Restart as sequencer
use Rattle.seq_node.proofs.Lives.{restart_is_the_items as sequencer_restarts}
use Rattle.shard_node.specs.Steps.{replica_step}
use Rattle.shard_node.specs.Restart as replica
use Rattle.shard_node.proofs.Lives.{restart_is_the_items as replica_restarts}
use Rattle.client_node.specs.Steps.{client_step}
use Rattle.client_node.specs.Restart as client
use Rattle.client_node.proofs.Restarts.{restart_items}
use Rattle.consumer_node.specs.Apps.{any_meaning}
use Rattle.consumer_node.specs.Steps.{consumer_step}
use Rattle.consumer_node.specs.Restart as consumer
use Rattle.runs.specs.Names.{NodeId, Config, Event}
use Rattle.runs.specs.Runs.{IsPastOf}
use Rattle.runs.proofs.ConsumerLaws.{consumer_restarts}
use Rattle.runs.proofs.InPlace.{with_event, events_of, RestartsInPlace}

-- ---- a run's events are valid

valid_if : (own : Bool) (event : Event) (taken : List Event) → IsValidEvent event → AllByRecursion IsValidEvent taken
    → AllByRecursion IsValidEvent (with_event own event taken)
valid_if true event taken here before = (here, before)
valid_if false event taken here before = before

pub events_valid : (cfg : Config) (node : NodeId) (past : Past) → IsPastOf cfg past → AllByRecursion IsValidEvent (events_of node past)
events_valid cfg node [] run = tt
events_valid cfg node (e ∷ past) run = valid_if (same_node e.node node) e.event (events_of node past) run.0.valid (events_valid cfg node past run.1)

-- ---- each kind restarts in place

pub sequencer_in_place : (cfg : Config) (node : NodeId) → IsValidConfig cfg → IsNodeOf cfg node
    → RestartsInPlace sequencer_step (sequencer.fresh_node cfg node) (sequencer.restart_of cfg node)
sequencer_in_place cfg node valid here taken each = sequencer_restarts cfg node taken valid here each

pub replica_in_place : (cfg : Config) (node : NodeId) → IsValidConfig cfg → IsNodeOf cfg node
    → RestartsInPlace replica_step (replica.fresh_node cfg node) (replica.restart_of cfg node)
replica_in_place cfg node valid here taken each = replica_restarts cfg node taken valid here each

pub client_in_place : (cfg : Config) (node : NodeId) → RestartsInPlace client_step (client.fresh_node cfg node) (client.restart_of cfg node)
client_in_place cfg node taken each = restart_items cfg node taken each

pub consumer_in_place : (cfg : Config) (node : NodeId) → IsValidConfig cfg → IsNodeOf cfg node
    → RestartsInPlace (consumer_step any_meaning) (consumer.fresh_node any_meaning cfg node) (consumer.restart_of any_meaning cfg node)
consumer_in_place cfg node valid here taken each = consumer_restarts cfg node taken valid here each
