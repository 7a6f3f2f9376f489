-- Every run's nodes have what their items give, and an entry leaves its node what the table's step leaves.
use Rattle.std.proofs.Common.{◌≡◌, ◌∙◌, ℕ, ◌+◌, ◌<◌, List, [], ◌∷◌, ◌++◌, map, length, filter_map, Option, Some, None, refl, sym, ap, arith}
use Rattle.std.specs.List.{fold, cons_option}
use Rattle.std.proofs.lemmas.List.{map-append}
use Rattle.std.proofs.lemmas.List.Elements.{filter_map-append}
use Rattle.std.proofs.lemmas.Grind.{flat_map-append}
use Rattle.app_law.specs.declared.any_app.AnyApp.{AnyApp}
use Rattle.app_law.specs.AnyApps.{any_next, any_fresh}
use Rattle.app_law.specs.Folds.{fold_of}
use Rattle.app_law.proofs.Folds.{fold_of_append}
use Rattle.msg_wire.specs.Nodes.{same_node}
use Rattle.msg_wire.specs.Valid.{IsValidConfig}
use Rattle.net_model.specs.Pasts.{Past}
use Rattle.seq_node.specs.States.{acceptor_at}
use Rattle.runs.specs.Names.{NodeId, Side, Config, Item, HistoryEntry}
use Rattle.runs.specs.Names.nodes
use Rattle.runs.specs.Runs.{IsPastOf}
use Rattle.runs.specs.Kinds.{items_at}
use Rattle.runs.specs.Marks.{entry_in, known_by, records_in, log_by, kept_confirmation_in, kept_confirmations}
use Rattle.runs.specs.Homes.{Home, home_in}
use Rattle.runs.proofs.SameNodes.{node_itself}
use Rattle.safety_frame.specs.StableItems.{SequencerIsItems, ReplicaIsItems, ClientIsItems, ConsumerIsItems, StableIsItems, body_stored, ack_stored, after_item}
use Rattle.safety_frame.specs.Steps.{LeavesItsStep, StepsLeaveStates}
use Rattle.safety_frame.proofs.NodeKinds.{Kind, stored, sequencers, replicas, clients, consumers}
use Rattle.safety_frame.proofs.Pasts.{own_state}
use Rattle.safety_frame.proofs.Inductions.{OfStates}
use Rattle.safety_frame.proofs.Parts.{IsByItems, run_part, adds, counts, adds_all, counts_all}
use Rattle.safety_frame.proofs.Acceptors.{acceptors_by_items}
use Rattle.safety_frame.proofs.StableParts as parts

-- ---- the known list, of each kind

pub known_is : {S : Type 0} (k : Kind S) → IsByItems k (λ s. s.base.known) (adds known_by) → (cfg : Config) (valid : IsValidConfig cfg) (past : Past)
    → IsPastOf cfg past
    → OfStates k cfg valid (λ past node n. n.base.known ≡ known_by (stored k cfg node past)) past
known_is k is cfg valid past run node one here =
    run_part k (λ s. s.base.known) (adds known_by) is cfg valid past run node one here
    ∙ (ap (λ base. fold (adds known_by) base.known (stored k cfg node past)) (k.starts cfg node)
    ∙ adds_all known_by (filter_map-append entry_in) refl [] (stored k cfg node past))

-- ---- a replica's log

pub log_is : (cfg : Config) (valid : IsValidConfig cfg) (past : Past) → IsPastOf cfg past
    → OfStates replicas cfg valid (λ past node n. n.own.log ≡ log_by (stored replicas cfg node past)) past
log_is cfg valid past run node one here =
    run_part replicas (λ s. s.own.log) (adds log_by) parts.log_by_items cfg valid past run node one here
    ∙ adds_all log_by (flat_map-append records_in) refl [] (stored replicas cfg node past)

-- ---- homes and confirmed records

none_before : (n : ℕ) → 0 + n ≡ n
none_before n = omega arith

last_home : (home : Home) (found : Option Home) (stable : List Item)
    → ((h : Home) → (before : List Home) × (h ∷ filter_map home_in stable ≡ before ++ fold parts.home_after h stable ∷ []))
    → (before : List Home) × (home ∷ cons_option found (filter_map home_in stable) ≡ before ++ fold parts.home_after (parts.latest home found) stable ∷ [])
last_home home None stable later = later home
last_home home (Some moved) stable later = let rest = later moved in (home ∷ rest.0, ap (λ l. home ∷ l) rest.1)

homes_end : (stable : List Item) (home : Home) → (before : List Home) × (home ∷ filter_map home_in stable ≡ before ++ fold parts.home_after home stable ∷ [])
homes_end [] home = ([], refl)
homes_end (item ∷ stable) home = last_home home (home_in item) stable (homes_end stable)

base_all : (base : AnyApp) (stable : List Item) → fold parts.base_after base stable ≡ fold_of any_next base (parts.confirmed_records stable)
base_all base [] = refl
base_all base (item ∷ stable) =
    base_all (parts.base_after base item) stable
    ∙ (sym (fold_of_append any_next base (parts.confirmed_records (item ∷ [])) (parts.confirmed_records stable))
    ∙ ap (fold_of any_next base) (sym (ap (map (λ c. c.0)) (filter_map-append kept_confirmation_in (item ∷ []) stable)
    ∙ map-append (λ c. c.0) (kept_confirmations (item ∷ [])) (kept_confirmations stable))))

-- ---- each kind

module _ (cfg : Config) (past : Past) (valid : IsValidConfig cfg) (run : IsPastOf cfg past) where
  pub sequencer_is : (number : ℕ) → number < cfg.seqs → SequencerIsItems cfg number past
  sequencer_is number here = record {
    known = known_is sequencers parts.sequencer_known cfg valid past run (nodes.Seq number) refl here;
    acceptors =
        λ slot. run_part sequencers (λ s. acceptor_at s.own slot) (after_item slot) (acceptors_by_items slot) cfg valid past run (nodes.Seq number) refl here;
  }

  pub replica_is : (shard : ℕ) (side : Side) → shard < cfg.shards → ReplicaIsItems cfg shard side past
  replica_is shard side here = record {
    known = known_is replicas parts.replica_known cfg valid past run (nodes.Shard shard side) refl here;
    log = log_is cfg valid past run (nodes.Shard shard side) refl here;
  }

  pub client_is : (number : ℕ) → number < length cfg.homes → ClientIsItems cfg number past
  client_is number here =
      let node : NodeId = nodes.Client number in
      let stable : List Item = items_at cfg node past in
      let ends = homes_end stable (parts.home_of (clients.fresh cfg node).own) in
      let home = run_part clients (λ s. parts.home_of s.own) parts.home_after parts.home_by_items cfg valid past run node refl here in
      record {
        known = known_is clients parts.client_known cfg valid past run node refl here;
        bodies =
            run_part clients (λ s. s.own.bodies) (adds (filter_map body_stored)) parts.bodies_by_items cfg valid past run node refl here
            ∙ adds_all (filter_map body_stored) (filter_map-append body_stored) refl [] stable;
        acked =
            run_part clients (λ s. s.own.acked) (counts (filter_map ack_stored)) parts.acked_by_items cfg valid past run node refl here
            ∙ counts_all (filter_map ack_stored) (filter_map-append ack_stored) refl 0 stable ∙ none_before _;
        home = (ends.0, ends.1 ∙ ap (λ last. ends.0 ++ last ∷ []) (sym home));
      }

  pub consumer_is : (number : ℕ) → number < cfg.consumers → ConsumerIsItems cfg number past
  consumer_is number here =
      let node : NodeId = nodes.Consumer number in
      let stable : List Item = items_at cfg node past in
      record {
        known = known_is consumers parts.consumer_known cfg valid past run node refl here;
        confirmed =
            run_part consumers (λ s. s.own.confirmed) (counts kept_confirmations) parts.confirmed_by_items cfg valid past run node refl here
            ∙ counts_all kept_confirmations (filter_map-append kept_confirmation_in) refl 0 stable ∙ none_before _;
        base =
            run_part consumers (λ s. s.own.base) parts.base_after parts.base_by_items cfg valid past run node refl here
            ∙ base_all (any_fresh cfg.app) stable;
      }

pub stable_is_items : StableIsItems
stable_is_items cfg past valid run = record {
  sequencers = sequencer_is cfg past valid run;
  replicas = replica_is cfg past valid run;
  clients = client_is cfg past valid run;
  consumers = consumer_is cfg past valid run;
}

-- ---- steps

by_node : (cfg : Config) (e : HistoryEntry) (past : Past) (node : NodeId) → IsValidConfig cfg → IsPastOf cfg (e ∷ past) → e.node ≡ node
    → LeavesItsStep cfg e past node
by_node cfg e past (nodes.Seq number) valid run own =
    own_state sequencers cfg (nodes.Seq number) e past valid run (ap (λ x. same_node x (nodes.Seq number)) own ∙ node_itself (nodes.Seq number))
by_node cfg e past (nodes.Shard shard side) valid run own =
    own_state replicas cfg (nodes.Shard shard side) e past valid run (ap (λ x. same_node x (nodes.Shard shard side)) own ∙ node_itself (nodes.Shard shard side))
by_node cfg e past (nodes.Client number) valid run own =
    own_state clients cfg (nodes.Client number) e past valid run (ap (λ x. same_node x (nodes.Client number)) own ∙ node_itself (nodes.Client number))
by_node cfg e past (nodes.Consumer number) valid run own =
    own_state consumers cfg (nodes.Consumer number) e past valid run (ap (λ x. same_node x (nodes.Consumer number)) own ∙ node_itself (nodes.Consumer number))

pub steps_leave_states : StepsLeaveStates
steps_leave_states cfg e past valid run = by_node cfg e past e.node valid run refl
