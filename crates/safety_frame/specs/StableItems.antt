-- In every run the stable part of a node's state is what its items give, none of them passed over.
use Rattle.std.specs.Prelude.{◌≡◌, ℕ, ◌<◌, ◌==◌, if◌then◌else◌, List, [], ◌∷◌, ◌++◌, map, length, filter_map, fold, Option, Some, None}
use Rattle.majority.specs.Acceptors.{AcceptorState, fresh_acceptor, with_promise, with_vote}
use Rattle.net_model.specs.Pasts.{Past}
use Rattle.seq_node.specs.States.{acceptor_at}
use Rattle.client_node.specs.States.{ClientState}
use Rattle.runs.specs.Names.{Side, Config, Entry, Item}
use Rattle.runs.specs.Names.nodes
use Rattle.runs.specs.Names.items
use Rattle.runs.specs.Kinds.{items_at, sequencer_after, replica_after, client_after, consumer_after}
use Rattle.runs.specs.Known.{known_at, log_at}
use Rattle.runs.specs.Marks.{kept_confirmations}
use Rattle.runs.specs.Homes.{Home, homes_at}
use Rattle.runs.specs.Outputs.{app_after}
use Rattle.safety_frame.specs.EveryRun.{OfEveryRun}

-- ---- sequencers

-- a slot's acceptor after an item: it has the ballot of the last one of its slot, and what was accepted last
abbrev pub after_item : ℕ → AcceptorState Entry → Item → AcceptorState Entry
after_item slot acceptor (items.Promised at ballot) = if at == slot then with_promise ballot acceptor else acceptor
after_item slot acceptor (items.Accepted at ballot entry) = if at == slot then with_vote ballot entry acceptor else acceptor
after_item slot acceptor _ = acceptor

abbrev pub acceptor_by : ℕ → List Item → AcceptorState Entry
acceptor_by slot stored = fold (after_item slot) fresh_acceptor stored

pub record SequencerIsItems (cfg : Config) (number : ℕ) (past : Past) : Type 0 where
  pub known : (sequencer_after cfg number past).base.known ≡ known_at cfg (nodes.Seq number) past
  pub acceptors : (slot : ℕ) → acceptor_at (sequencer_after cfg number past).own slot ≡ acceptor_by slot (items_at cfg (nodes.Seq number) past)

-- ---- replicas

pub record ReplicaIsItems (cfg : Config) (shard : ℕ) (side : Side) (past : Past) : Type 0 where
  pub known : (replica_after cfg shard side past).base.known ≡ known_at cfg (nodes.Shard shard side) past
  pub log : (replica_after cfg shard side past).own.log ≡ log_at cfg shard side past

-- ---- clients

abbrev pub body_stored : Item → Option (List ℕ)
body_stored (items.Submitted body) = Some body
body_stored _ = None

-- the bodies that a client has stored, and how many acknowledgements
abbrev pub bodies_by : List Item → List (List ℕ)
bodies_by = filter_map body_stored

abbrev pub ack_stored : Item → Option (Unit {0})
ack_stored items.Acked = Some tt
ack_stored _ = None

abbrev pub acked_by : List Item → ℕ
acked_by stored = length (filter_map ack_stored stored)

-- its home is the last of its homes
abbrev pub IsLastHome : List Home → ClientState → Type 0
IsLastHome homes own = (before : List Home) × (homes ≡ before ++ record { shard = own.home; first = own.first } ∷ [])

pub record ClientIsItems (cfg : Config) (number : ℕ) (past : Past) : Type 0 where
  pub known : (client_after cfg number past).base.known ≡ known_at cfg (nodes.Client number) past
  pub bodies : (client_after cfg number past).own.bodies ≡ bodies_by (items_at cfg (nodes.Client number) past)
  pub acked : (client_after cfg number past).own.acked ≡ acked_by (items_at cfg (nodes.Client number) past)
  pub home : IsLastHome (homes_at cfg number past) (client_after cfg number past).own

-- ---- consumers

pub record ConsumerIsItems (cfg : Config) (number : ℕ) (past : Past) : Type 0 where
  pub known : (consumer_after cfg number past).base.known ≡ known_at cfg (nodes.Consumer number) past
  pub confirmed : (consumer_after cfg number past).own.confirmed ≡ length (kept_confirmations (items_at cfg (nodes.Consumer number) past))
  pub base : (consumer_after cfg number past).own.base ≡ app_after cfg (map (λ c. c.0) (kept_confirmations (items_at cfg (nodes.Consumer number) past)))

-- ---- of every run

pub record AreItems (cfg : Config) (past : Past) : Type 0 where
  pub sequencers : (number : ℕ) → number < cfg.seqs → SequencerIsItems cfg number past
  pub replicas : (shard : ℕ) (side : Side) → shard < cfg.shards → ReplicaIsItems cfg shard side past
  pub clients : (number : ℕ) → number < length cfg.homes → ClientIsItems cfg number past
  pub consumers : (number : ℕ) → number < cfg.consumers → ConsumerIsItems cfg number past

abbrev pub StableIsItems : Type 0
StableIsItems = OfEveryRun AreItems
