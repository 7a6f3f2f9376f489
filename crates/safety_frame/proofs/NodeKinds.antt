-- A kind of node: its step table, the walk over it, and what holds of its nodes. What is alike in the four kinds is said of any.
use Rattle.std.proofs.Common.{◌≡◌, List, refl}
use Rattle.std.specs.Prelude.{IsTrue}
use Rattle.msg_wire.specs.Nodes.{is_sequencer, is_replica, is_client, is_consumer}
use Rattle.msg_wire.specs.Valid.{IsValidConfig, IsNodeOf, IsValidEvent}
use Rattle.msg_wire.specs.Steps.{IsValidStep}
use Rattle.net_model.specs.Pasts.{Past}
use Rattle.net_model.specs.Tables.{StepTable, state_of, items_of}
use Rattle.node_rules.specs.Nodes.{Node, fresh_base, reset_base}
use Rattle.node_rules.specs.Turns.{Turn, step_of}
use Rattle.node_rules.specs.Sound.{IsBase}
use Rattle.node_rules.proofs.Kept.{Keeping, IsKept, kept_valid}
use Rattle.node_rules.proofs.Places.{Places, SitesAfter, same_own}
use Rattle.app_law.specs.declared.any_app.AnyApp.{AnyApp}
use Rattle.app_law.specs.AnyApps.{any_fresh}
use Rattle.seq_node.specs.States.{SequencerState}
use Rattle.seq_node.specs.Steps.{sequencer_step}
use Rattle.seq_node.specs.Restart as sequencer
use Rattle.seq_node.proofs.Places.{sequencer_places, over}
use Rattle.seq_node.proofs.Walk.{sequencer_walk}
use Rattle.seq_node.proofs.Lives as sequencer_lives
use Rattle.seq_node.proofs.Orderly.{fresh_sound}
use Rattle.seq_node.proofs.Keeps.{IsOrderlyAs, sequencer_keeping}
use Rattle.shard_node.specs.States.{ReplicaState}
use Rattle.shard_node.specs.Steps.{replica_step}
use Rattle.shard_node.specs.Restart as replica
use Rattle.shard_node.specs.Sound.{IsReplica}
use Rattle.shard_node.proofs.Places.{replica_places}
use Rattle.shard_node.proofs.Walk.{replica_walk}
use Rattle.shard_node.proofs.Lives as replica_lives
use Rattle.shard_node.proofs.Keeps.{replica_keeping}
use Rattle.client_node.specs.States.{ClientState}
use Rattle.client_node.specs.Steps.{client_step}
use Rattle.client_node.specs.Restart as client
use Rattle.client_node.specs.Sound.{IsClient}
use Rattle.client_node.proofs.Places.{client_places}
use Rattle.client_node.proofs.Walk.{client_walk}
use Rattle.client_node.proofs.Sound as client_sound
use Rattle.consumer_node.specs.Apps.{any_meaning}
use Rattle.consumer_node.specs.States.{ConsumerState}
use Rattle.consumer_node.specs.Steps.{consumer_step}
use Rattle.consumer_node.specs.Restart as consumer
use Rattle.consumer_node.specs.Sound.{IsConsumer}
use Rattle.consumer_node.proofs.Places.{consumer_places}
use Rattle.consumer_node.proofs.Walk.{consumer_walk}
use Rattle.consumer_node.proofs.Lives as consumer_lives
use Rattle.consumer_node.proofs.Outputs.{any_outputs_fit}
use Rattle.consumer_node.proofs.Reached.{IsReached, fit_later, reached_none, reached_later}
use Rattle.node_rules.specs.Names.{AppKind}
use Rattle.runs.specs.Names.{NodeId, Config, Entry, Item, Event}
use Rattle.runs.proofs.InPlace.{table_of, RestartsInPlace}
use Rattle.runs.proofs.Restarts.{sequencer_in_place, replica_in_place, client_in_place, consumer_in_place}

pub record Kind (S : Type 0) : Type 1 where
  pub step : Node S → Event → Turn S
  pub fresh : Config → NodeId → Node S
  pub restart : Config → NodeId → List Item → Node S
  pub in_place : (cfg : Config) (node : NodeId) → IsValidConfig cfg → IsNodeOf cfg node → RestartsInPlace step (fresh cfg node) (restart cfg node)
  pub places : Places S
  -- what its own part becomes as an entry is learned
  pub learns : Node S → Entry → S
  pub walk : (W : Turn S → Type 0) (n : Node S) (event : Event) → SitesAfter places learns W n event → W (step n event)
  pub resets : (n : Node S) → (places.reset n).base ≡ reset_base n.base
  pub starts : (cfg : Config) (node : NodeId) → (fresh cfg node).base ≡ fresh_base cfg node
  pub IsOne : NodeId → Type 0
  pub Is : Node S → Type 0
  pub base_is : (n : Node S) → Is n → IsBase n.base
  pub fresh_is : (cfg : Config) (node : NodeId) → IsValidConfig cfg → IsNodeOf cfg node → IsOne node → Is (fresh cfg node)
  -- what a step leaves is of the kind, and what it gives is valid
  pub keeps : (n : Node S) (event : Event) → Is n → IsValidEvent event → Is (step n event).state × IsValidStep (step_of (step n event))

-- a node's state and items in a past
abbrev pub table : {S : Type 0} → Kind S → Config → NodeId → StepTable (Node S)
table k cfg node = table_of k.step (k.fresh cfg node) (k.restart cfg node)

abbrev pub after : {S : Type 0} → Kind S → Config → NodeId → Past → Node S
after k cfg node past = state_of (table k cfg node) node past

abbrev pub stored : {S : Type 0} → Kind S → Config → NodeId → Past → List Item
stored k cfg node past = items_of (table k cfg node) node past

-- ---- the four kinds

-- what a step leaves and gives that keeps what its kind keeps
pub left_and_given : {S : Type 0} (k : Keeping S) (n : Node S) (t : Turn S) → IsKept k n t → k.Is t.state × IsValidStep (step_of t)
left_and_given k n t kept = (kept.is, kept_valid k n t kept)

abbrev pub IsSequencing : NodeId → Type 0
IsSequencing me = IsTrue (is_sequencer me)

abbrev pub sequencers : Kind SequencerState
sequencers = record {
  step = sequencer_step;
  fresh = sequencer.fresh_node;
  restart = sequencer.restart_of;
  in_place = sequencer_in_place;
  places = sequencer_places;
  learns = over;
  walk = λ W n event s. sequencer_walk s;
  resets = λ n. refl;
  starts = λ cfg node. refl;
  IsOne = IsSequencing;
  Is = IsOrderlyAs IsSequencing;
  base_is = λ n is. is.0.base;
  fresh_is = λ cfg node valid here one. (fresh_sound cfg node valid here, one);
  keeps = λ n event is valid. left_and_given (sequencer_keeping IsSequencing) n (sequencer_step n event) (sequencer_lives.kept_step IsSequencing n event is valid);
}

abbrev pub replicas : Kind ReplicaState
replicas = record {
  step = replica_step;
  fresh = replica.fresh_node;
  restart = replica.restart_of;
  in_place = replica_in_place;
  places = replica_places;
  learns = same_own;
  walk = replica_walk;
  resets = λ n. refl;
  starts = λ cfg node. refl;
  IsOne = λ node. IsTrue (is_replica node);
  Is = IsReplica;
  base_is = λ n is. is.base;
  fresh_is = λ cfg node valid here one. replica_lives.fresh_sound cfg node valid here;
  keeps = λ n event is valid. left_and_given replica_keeping n (replica_step n event) (replica_lives.kept_step n event is valid);
}

abbrev pub clients : Kind ClientState
clients = record {
  step = client_step;
  fresh = client.fresh_node;
  restart = client.restart_of;
  in_place = λ cfg node valid here. client_in_place cfg node;
  places = client_places;
  learns = same_own;
  walk = client_walk;
  resets = λ n. refl;
  starts = λ cfg node. refl;
  IsOne = λ node. IsTrue (is_client node);
  Is = IsClient;
  base_is = λ n is. is.base;
  fresh_is = λ cfg node valid here one. client_sound.fresh_sound cfg node valid here;
  keeps = λ n event is valid. left_and_given client_sound.client_keeping n (client_step n event) (client_sound.step_sound n event is valid);
}

-- a consumer's application has come to its state from a fresh one by valid records
pub record IsAnyConsumer (n : Node (ConsumerState AnyApp)) : Type 0 where
  pub is : IsConsumer n
  pub app : AppKind
  pub reached : IsReached any_meaning (any_fresh app) n.own.base

pub any_fresh_is : (cfg : Config) (node : NodeId) → IsValidConfig cfg → IsNodeOf cfg node → IsAnyConsumer (consumer.fresh_node any_meaning cfg node)
any_fresh_is cfg node valid here = record {
  is = consumer_lives.fresh_sound any_meaning cfg node valid here;
  app = cfg.app;
  reached = reached_none any_meaning (any_fresh cfg.app);
}

pub any_step_is : (n : Node (ConsumerState AnyApp)) (event : Event) → IsAnyConsumer n → IsValidEvent event
    → IsAnyConsumer (consumer_step any_meaning n event).state
any_step_is n event any valid =
    let kept = consumer_lives.kept_step any_meaning n event any.is valid in
    record {
      is = kept.sound;
      app = any.app;
      reached = reached_later any_meaning (any_fresh any.app) n.own.base (consumer_step any_meaning n event).state.own.base any.reached kept.given.reached;
    }

pub any_step_valid : (n : Node (ConsumerState AnyApp)) (event : Event) → IsAnyConsumer n → IsValidEvent event
    → IsValidStep (step_of (consumer_step any_meaning n event))
any_step_valid n event any valid =
    let kept = consumer_lives.kept_step any_meaning n event any.is valid in
    let fit = fit_later any_meaning (any_fresh any.app) n.own.base any.reached (any_outputs_fit any.app) in
    record { stable = kept.given.stable fit; sends = kept.given.sends }

abbrev pub consumers : Kind (ConsumerState AnyApp)
consumers = record {
  step = consumer_step any_meaning;
  fresh = consumer.fresh_node any_meaning;
  restart = consumer.restart_of any_meaning;
  in_place = consumer_in_place;
  places = consumer_places any_meaning;
  learns = same_own;
  walk = consumer_walk any_meaning;
  resets = λ n. refl;
  starts = λ cfg node. refl;
  IsOne = λ node. IsTrue (is_consumer node);
  Is = IsAnyConsumer;
  base_is = λ n any. any.is.base;
  fresh_is = λ cfg node valid here one. any_fresh_is cfg node valid here;
  keeps = λ n event is valid. (any_step_is n event is valid, any_step_valid n event is valid);
}
