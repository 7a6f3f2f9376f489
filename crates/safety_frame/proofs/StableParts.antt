-- The stable part of each node's state is what its items give, in every run.
use Rattle.std.proofs.Common.{◌≡◌, ◌∙◌, ◌+◌, List, [], ◌∷◌, ◌++◌, map, length, filter_map, append-nil, Option, Some, None, refl, sym, ap, arith}
use Rattle.app_law.specs.declared.any_app.AnyApp.{AnyApp}
use Rattle.app_law.specs.AnyApps.{any_next}
use Rattle.app_law.specs.Folds.{fold_of}
use Rattle.node_rules.specs.Names.{Record, Item, Event}
use Rattle.node_rules.specs.Nodes.{Node}
use Rattle.seq_node.specs.States.{SequencerState}
use Rattle.seq_node.proofs.Places as seq
use Rattle.shard_node.specs.States.{ReplicaState}
use Rattle.shard_node.proofs.Places as shard
use Rattle.client_node.specs.States.{ClientState}
use Rattle.client_node.proofs.Places as client
use Rattle.consumer_node.specs.Apps.{any_meaning}
use Rattle.consumer_node.specs.States.{ConsumerState}
use Rattle.consumer_node.proofs.Places as consumer
use Rattle.runs.specs.Marks.{known_by, log_by, kept_confirmations}
use Rattle.runs.specs.Homes.{Home, home_in}
use Rattle.safety_frame.specs.StableItems.{bodies_by, ack_stored}
use Rattle.safety_frame.proofs.NodeKinds.{Kind, sequencers, replicas, clients, consumers}
use Rattle.safety_frame.proofs.Parts.{IsByItems, adds, counts}

-- ---- the known list, of each kind

known_by_items : {S : Type 0} (k : Kind S)
    → ((n : Node S) (event : Event) (s : Node S) (item : Item) (own : S) → k.places.Stores n event s item own → known_by (item ∷ []) ≡ [])
    → ((n : Node S) → (k.places.reset n).base.known ≡ n.base.known) → IsByItems k (λ s. s.base.known) (adds known_by)
known_by_items k others resets = record {
  learns = λ s entry. refl;
  sees = λ s count. refl;
  ticks = λ s. refl;
  stores = λ n event s item own why. sym (ap (λ l. s.base.known ++ l) (others n event s item own why) ∙ append-nil s.base.known);
  changes = λ n event s own why. refl;
  resets = resets;
}

sequencer_others : (n : Node SequencerState) (event : Event) (s : Node SequencerState) (item : Item) (own : SequencerState) → seq.Stores n event s item own
    → known_by (item ∷ []) ≡ []
sequencer_others n event s _ _ (seq.promised from slot ballot comes free) = refl
sequencer_others n event s _ _ (seq.accepted from slot ballot entry comes free) = refl
sequencer_others n event s _ _ (seq.begins_at_once value why) = refl
sequencer_others n event s _ _ (seq.begins ballot value why later) = refl
sequencer_others n event s _ _ (seq.sends a replica report value counted why) = refl

replica_others : (n : Node ReplicaState) (event : Event) (s : Node ReplicaState) (item : Item) (own : ReplicaState) → shard.Stores n event s item own
    → known_by (item ∷ []) ≡ []
replica_others n event s _ _ (shard.appends from first number body comes there low room expected) = refl
replica_others n event s _ _ (shard.copied from rec comes room) = refl
replica_others n event s _ _ (shard.fills from wanted comes there short) = refl

client_others : (n : Node ClientState) (event : Event) (s : Node ClientState) (item : Item) (own : ClientState) → client.Stores n event s item own
    → known_by (item ∷ []) ≡ []
client_others n event s _ _ (client.submits by body submit room) = refl
client_others n event s _ _ (client.counts from number position comes next room) = refl
client_others n event s _ _ (client.moves from next row comes home gone next_is row_is) = refl

consumer_others : (n : Node (ConsumerState AnyApp)) (event : Event) (s : Node (ConsumerState AnyApp)) (item : Item) (own : ConsumerState AnyApp)
    → consumer.Stores any_meaning n event s item own → known_by (item ∷ []) ≡ []
consumer_others n event s _ _ (consumer.confirms_oldest rec o why) = refl

pub sequencer_known : IsByItems sequencers (λ s. s.base.known) (adds known_by)
sequencer_known = known_by_items sequencers sequencer_others (λ n. refl)

pub replica_known : IsByItems replicas (λ s. s.base.known) (adds known_by)
replica_known = known_by_items replicas replica_others (λ n. refl)

pub client_known : IsByItems clients (λ s. s.base.known) (adds known_by)
client_known = known_by_items clients client_others (λ n. refl)

pub consumer_known : IsByItems consumers (λ s. s.base.known) (adds known_by)
consumer_known = known_by_items consumers consumer_others (λ n. refl)

-- ---- a replica's log

log_stored : (n : Node ReplicaState) (event : Event) (s : Node ReplicaState) (item : Item) (own : ReplicaState) → shard.Stores n event s item own
    → own.log ≡ s.own.log ++ log_by (item ∷ [])
log_stored n event s _ _ (shard.appends from first number body comes there low room expected) = refl
log_stored n event s _ _ (shard.copied from rec comes room) = refl
log_stored n event s _ _ (shard.fills from wanted comes there short) = ap (λ l. s.own.log ++ l) (sym (append-nil _))

log_changed : (n : Node ReplicaState) (event : Event) (s : Node ReplicaState) (own : ReplicaState) → shard.Changes n event s own → own.log ≡ s.own.log
log_changed n event s _ (shard.holds from len comes) = refl
log_changed n event s _ (shard.covers before entry learned) = refl
log_changed n event s _ (shard.cuts first why) = refl
log_changed n event s _ (shard.promises_on durable primary free) = refl

pub log_by_items : IsByItems replicas (λ s. s.own.log) (adds log_by)
log_by_items = record {
  learns = λ s entry. sym (append-nil s.own.log);
  sees = λ s count. refl;
  ticks = λ s. refl;
  stores = log_stored;
  changes = log_changed;
  resets = λ n. refl;
}

-- ---- a client's bodies, acknowledgements and home

bodies_stored : (n : Node ClientState) (event : Event) (s : Node ClientState) (item : Item) (own : ClientState) → client.Stores n event s item own
    → own.bodies ≡ s.own.bodies ++ bodies_by (item ∷ [])
bodies_stored n event s _ _ (client.submits by body submit room) = refl
bodies_stored n event s _ _ (client.counts from number position comes next room) = sym (append-nil s.own.bodies)
bodies_stored n event s _ _ (client.moves from next row comes home gone next_is row_is) = sym (append-nil s.own.bodies)

pub bodies_by_items : IsByItems clients (λ s. s.own.bodies) (adds bodies_by)
bodies_by_items = record {
  learns = λ s entry. sym (append-nil s.own.bodies);
  sees = λ s count. refl;
  ticks = λ s. refl;
  stores = bodies_stored;
  changes = λ n event s own why. absurd why;
  resets = λ n. refl;
}

acked_stored : (n : Node ClientState) (event : Event) (s : Node ClientState) (item : Item) (own : ClientState) → client.Stores n event s item own
    → own.acked ≡ s.own.acked + length (filter_map ack_stored (item ∷ []))
acked_stored n event s _ _ (client.submits by body submit room) = omega arith
acked_stored n event s _ _ (client.counts from number position comes next room) = refl
acked_stored n event s _ _ (client.moves from next row comes home gone next_is row_is) = omega arith

pub acked_by_items : IsByItems clients (λ s. s.own.acked) (counts (filter_map ack_stored))
acked_by_items = record {
  learns = λ s entry. omega arith;
  sees = λ s count. refl;
  ticks = λ s. refl;
  stores = acked_stored;
  changes = λ n event s own why. absurd why;
  resets = λ n. refl;
}

abbrev pub home_of : ClientState → Home
home_of own = record { shard = own.home; first = own.first }

abbrev pub latest : Home → Option Home → Home
latest home None = home
latest home (Some later) = later

abbrev pub home_after : Home → Item → Home
home_after home item = latest home (home_in item)

home_stored : (n : Node ClientState) (event : Event) (s : Node ClientState) (item : Item) (own : ClientState) → client.Stores n event s item own
    → home_of own ≡ home_after (home_of s.own) item
home_stored n event s _ _ (client.submits by body submit room) = refl
home_stored n event s _ _ (client.counts from number position comes next room) = refl
home_stored n event s _ _ (client.moves from next row comes home gone next_is row_is) = refl

pub home_by_items : IsByItems clients (λ s. home_of s.own) home_after
home_by_items = record {
  learns = λ s entry. refl;
  sees = λ s count. refl;
  ticks = λ s. refl;
  stores = home_stored;
  changes = λ n event s own why. absurd why;
  resets = λ n. refl;
}

-- ---- what a consumer confirmed

confirmed_stored : (n : Node (ConsumerState AnyApp)) (event : Event) (s : Node (ConsumerState AnyApp)) (item : Item) (own : ConsumerState AnyApp)
    → consumer.Stores any_meaning n event s item own → own.confirmed ≡ s.own.confirmed + length (kept_confirmations (item ∷ []))
confirmed_stored n event s _ _ (consumer.confirms_oldest rec o why) = refl

confirmed_changed : (n : Node (ConsumerState AnyApp)) (event : Event) (s : Node (ConsumerState AnyApp)) (own : ConsumerState AnyApp)
    → consumer.Changes any_meaning n event s own → own.confirmed ≡ s.own.confirmed
confirmed_changed n event s _ (consumer.holds_delivered from local rec comes) = refl
confirmed_changed n event s _ (consumer.cuts_off gone first why past) = refl
confirmed_changed n event s _ (consumer.closes_gone effect why) = refl
confirmed_changed n event s _ (consumer.applies_held rec held) = refl

pub confirmed_by_items : IsByItems consumers (λ s. s.own.confirmed) (counts kept_confirmations)
confirmed_by_items = record {
  learns = λ s entry. omega arith;
  sees = λ s count. refl;
  ticks = λ s. refl;
  stores = confirmed_stored;
  changes = confirmed_changed;
  resets = λ n. refl;
}

abbrev pub confirmed_records : List Item → List Record
confirmed_records stable = map (λ c. c.0) (kept_confirmations stable)

abbrev pub base_after : AnyApp → Item → AnyApp
base_after base item = fold_of any_next base (confirmed_records (item ∷ []))

base_stored : (n : Node (ConsumerState AnyApp)) (event : Event) (s : Node (ConsumerState AnyApp)) (item : Item) (own : ConsumerState AnyApp)
    → consumer.Stores any_meaning n event s item own → own.base ≡ base_after s.own.base item
base_stored n event s _ _ (consumer.confirms_oldest rec o why) = refl

base_changed : (n : Node (ConsumerState AnyApp)) (event : Event) (s : Node (ConsumerState AnyApp)) (own : ConsumerState AnyApp)
    → consumer.Changes any_meaning n event s own → own.base ≡ s.own.base
base_changed n event s _ (consumer.holds_delivered from local rec comes) = refl
base_changed n event s _ (consumer.cuts_off gone first why past) = refl
base_changed n event s _ (consumer.closes_gone effect why) = refl
base_changed n event s _ (consumer.applies_held rec held) = refl

pub base_by_items : IsByItems consumers (λ s. s.own.base) base_after
base_by_items = record {
  learns = λ s entry. refl;
  sees = λ s count. refl;
  ticks = λ s. refl;
  stores = base_stored;
  changes = base_changed;
  resets = λ n. refl;
}
