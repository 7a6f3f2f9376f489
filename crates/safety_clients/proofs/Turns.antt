-- Every run's homes: an entry leaves a client's homes or adds one, to which the client moves from its last one, told by a Fate.
use Rattle.std.proofs.Common.{◌≡◌, ◌⊎◌, ◌∙◌, ℕ, zero, suc, ◌≤◌, true, false, List, [], ◌∷◌, ◌++◌, slice_index, append-nil, filter_map, Some, Contains, refl, sym, ap, subst, inl, inr, arith}
use Rattle.std.specs.List.{slice_get}
use Rattle.std.proofs.lemmas.Bool.{and_parts, or_left, or_right, eq-eqb}
use Rattle.std.proofs.lemmas.Option.{same_Some}
use Rattle.std.proofs.lemmas.List.Elements.{filter_map-append, Contains-append_cases}
use Rattle.fix_ante.specs.declared.spots.Spot.{Spot}
use Rattle.fix_ante.specs.Windows.{has_row}
use Rattle.cut_core.specs.Agreements.{Agreement, is_gone}
use Rattle.majority.proofs.Lists.{Contains_cases, Contains_none}
use Rattle.msg_wire.specs.Nodes.{same_node, is_client, is_replica, number_of}
use Rattle.msg_wire.specs.Valid.{IsValidConfig, IsNodeOf}
use Rattle.net_model.specs.Pasts.{Past, sent}
use Rattle.node_rules.specs.Nodes.{Node, agreed_by}
use Rattle.node_rules.proofs.Places.{Comes}
use Rattle.client_node.specs.States.{ClientState}
use Rattle.client_node.specs.Steps.{client_step}
use Rattle.runs.specs.Names.{NodeId, Side, Config, Message, What, HistoryEntry}
use Rattle.runs.specs.Names.nodes
use Rattle.runs.specs.Names.whats
use Rattle.runs.specs.Kinds.{items_at}
use Rattle.runs.specs.Runs.{IsPastOf, Comes as ComesIn}
use Rattle.runs.specs.Known.{agreed_after, agreed_at, known_at}
use Rattle.runs.specs.Homes.{Home, home_in, homes_at}
use Rattle.runs.proofs.SameNodes.{same_node_is}
use Rattle.safety_frame.specs.StableItems.{ClientIsItems, ack_stored}
use Rattle.safety_frame.proofs.NodeKinds.{after, clients}
use Rattle.safety_frame.proofs.Pasts.{of_replica, of_client, own_items, other_stored, on_own, reading_grows}
use Rattle.safety_frame.proofs.Inductions.{every_past}
use Rattle.safety_frame.proofs.Lists.{begins_itself, length_stays}
use Rattle.safety_frame.proofs.Names.{IsNamed, states_named}
use Rattle.safety_frame.proofs.Going.{came}
use Rattle.safety_frame.proofs.Known.{known_folds_hold}
use Rattle.safety_frame.proofs.StableItems.{client_is}
use Rattle.safety_clients.specs.Homes.{acked_at}
use Rattle.safety_clients.proofs.Chains.{EachNext, next_alone, next_push}
use Rattle.safety_clients.proofs.Fronts.{has_end_gone}
use Rattle.safety_clients.proofs.Moving.{homes_in, Moves, may_move_on}

-- ---- what comes

-- a message that comes was sent to the node before
pub record WasSentTo (past : Past) (to from : NodeId) (what : What) : Type 0 where
  pub message : Message
  pub there : Contains (sent past) message
  pub to_it : message.to ≡ to
  pub by : message.from ≡ from
  pub says : message.what ≡ what

pub was_sent_to : {S : Type 0} (n : Node S) (e : HistoryEntry) (past : Past) (from : NodeId) (what : What) → ComesIn past e.node e.event
    → Comes n e.event from what
    → WasSentTo past e.node from what
was_sent_to n e past from what taken comes =
    let here = subst (ComesIn past e.node) comes.same taken in
    record { message = comes.message; there = here.1; to_it = here.0; by = comes.by; says = comes.says }

pub replica_named : (node : NodeId) → is_replica node ≡ true → (side : Side) × (node ≡ nodes.Shard (number_of node) side)
replica_named =
    of_replica (λ node. (side : Side) × (node ≡ nodes.Shard (number_of node) side)) (λ shard side. (side, refl))

pub client_named : (node : NodeId) → is_client node ≡ true → node ≡ nodes.Client (number_of node)
client_named = of_client (λ node. node ≡ nodes.Client (number_of node)) (λ client. refl)

row_there : (spots : List Spot) (i : ℕ) (row : Spot) → slice_get spots i ≡ Some row → has_row row.shard spots ≡ true
row_there [] i row at = absurd (cc)
row_there (s ∷ spots) zero row at = or_left _ _ (eq-eqb s.shard row.shard (ap (λ (x : Spot). x.shard) (same_Some s row at)))
row_there (s ∷ spots) (suc i) row at = or_right _ _ (row_there spots i row at)

-- ---- a move

pub record MovesHome (cfg : Config) (client : ℕ) (e : HistoryEntry) (past : Past) : Type 0 where
  pub own : same_node e.node (nodes.Client client) ≡ true
  pub earlier : Home
  pub later : Home
  pub side : Side
  -- the Fate was sent by a replica of the last home
  pub told : WasSentTo past (nodes.Client client) (nodes.Shard earlier.shard side) (whats.Fate later.first)
  pub before : List Home
  pub was : homes_at cfg client past ≡ before ++ earlier ∷ []
  pub now : homes_at cfg client (e ∷ past) ≡ homes_at cfg client past ++ later ∷ []
  pub gone : is_gone (agreed_at cfg (nodes.Client client) past) earlier.shard ≡ true
  pub free : is_gone (agreed_at cfg (nodes.Client client) past) later.shard ≡ false
  pub acked : later.first ≡ acked_at cfg client past

module _ (cfg : Config) (valid : IsValidConfig cfg) (client : ℕ) (e : HistoryEntry) (past : Past) (run : IsPastOf cfg (e ∷ past))
    (own : same_node e.node (nodes.Client client) ≡ true) where
  abbrev pub node : NodeId
  node = nodes.Client client

  pub here : IsNodeOf cfg node
  here = subst (IsNodeOf cfg) (same_node_is e.node node own) run.0.within

  abbrev pub n : Node ClientState
  n = after clients cfg node past

  pub is : ClientIsItems cfg client past
  is = client_is cfg past valid run.1 client here

  named : IsNamed cfg node n
  named = states_named clients cfg valid past run.1 node refl here

  agreed : agreed_by n.base ≡ agreed_at cfg node past
  agreed = ap (λ c. agreed_after c n.base.known) named.0 ∙ ap (agreed_after cfg) is.known

  pub homes_now : homes_at cfg client (e ∷ past) ≡ homes_at cfg client past ++ homes_in (client_step n e.event).stable
  homes_now =
      let given = homes_at cfg client [] in
      ap (λ l. given ++ filter_map home_in l) (own_items clients cfg node e past own)
      ∙ ap (λ l. given ++ l) (filter_map-append home_in (items_at cfg node past) (client_step n e.event).stable)

  moves_home : Moves n e.event (client_step n e.event).stable → MovesHome cfg client e past
  moves_home m =
      let goes = and_parts (is_replica m.from) (is_client n.base.me) (came n e.event m.from (whats.Fate m.next) m.comes).1 in
      let replica = replica_named m.from goes.0 in
      let sender = replica.1 ∙ ap (λ s. nodes.Shard s replica.0) m.home in
      let told = was_sent_to n e past m.from (whats.Fate m.next) run.0.comes m.comes in
      let known = known_at cfg node past in
      let consistent = (known_folds_hold cfg past valid run.1).consistent known (node, begins_itself known) in
      record {
        own = own;
        earlier = record { shard = n.own.home; first = n.own.first };
        later = record { shard = m.row.shard; first = m.next };
        side = replica.0;
        told = record {
          message = told.message;
          there = told.there;
          to_it = told.to_it ∙ same_node_is e.node node own;
          by = told.by ∙ sender;
          says = told.says;
        };
        before = is.home.0;
        was = is.home.1;
        now = homes_now ∙ ap (λ l. homes_at cfg client past ++ l) m.moved;
        gone = ap (λ a. is_gone a n.own.home) (sym agreed) ∙ has_end_gone (agreed_by n.base) n.own.home m.gone;
        free =
            consistent.sound.rows m.row.shard
            (subst (λ (a : Agreement). has_row m.row.shard a.current.spots ≡ true) agreed (row_there (agreed_by n.base).current.spots _ m.row m.is_row));
        acked = m.acked ∙ is.acked;
      }

  own_next : (homes_at cfg client (e ∷ past) ≡ homes_at cfg client past) ⊎ MovesHome cfg client e past
  own_next = elim (may_move_on n e.event) [
    | inl none ↦ inl (homes_now ∙ (ap (λ l. homes_at cfg client past ++ l) none ∙ append-nil (homes_at cfg client past)))
    | inr m ↦ inr (moves_home m)
  ]

-- the home that the cluster gives a client
abbrev given_home : Config → ℕ → Home
given_home cfg client = record { shard = slice_index cfg.homes client; first = 0 }

module _ (cfg : Config) (valid : IsValidConfig cfg) where
  pub homes_next : (e : HistoryEntry) (past : Past) → IsPastOf cfg (e ∷ past) → (client : ℕ)
      → (homes_at cfg client (e ∷ past) ≡ homes_at cfg client past) ⊎ MovesHome cfg client e past
  homes_next e past run client =
      on_own (same_node e.node (nodes.Client client)) (λ own. own_next cfg valid client e past run own)
      (λ other. inl (ap (λ l. homes_at cfg client [] ++ filter_map home_in l) (other_stored cfg (nodes.Client client) e past other)))

  -- ---- what holds of the homes of each move, and stays, holds of neighbours

  pub record KeepsTurns (Q : Past → ℕ → Home → Home → Type 0) : Type 0 where
    pub stays : (e : HistoryEntry) (past : Past) (client : ℕ) (earlier later : Home) → IsPastOf cfg (e ∷ past) → Q past client earlier later
        → Q (e ∷ past) client earlier later
    pub moved : (e : HistoryEntry) (past : Past) (client : ℕ) → IsPastOf cfg (e ∷ past) → (m : MovesHome cfg client e past)
        → Q (e ∷ past) client m.earlier m.later

  module _ (Q : Past → ℕ → Home → Home → Type 0) (keeps : KeepsTurns Q) where
    abbrev OfHomes : Past → Type 0
    OfHomes past = (client : ℕ) → EachNext (Q past client) (homes_at cfg client past)

    next_turn : (e : HistoryEntry) (past : Past) → IsPastOf cfg (e ∷ past) → OfHomes past → OfHomes (e ∷ past)
    next_turn e past run before client =
        let Later = Q (e ∷ past) client in
        let still : EachNext Later (homes_at cfg client past) = λ i x y at next. keeps.stays e past client x y run (before client i x y at next) in
        elim (homes_next e past run client) [
          | inl same ↦ subst (EachNext Later) (sym same) still
          | inr m ↦
              let pushed = next_push Later m.before m.earlier m.later (subst (EachNext Later) m.was still) (keeps.moved e past client run m) in
              subst (EachNext Later) (sym (m.now ∙ ap (λ l. l ++ m.later ∷ []) m.was)) pushed
        ]

    pub every_turn : (past : Past) → IsPastOf cfg past → OfHomes past
    every_turn = every_past cfg OfHomes (λ client. next_alone (Q [] client) (given_home cfg client)) next_turn

  -- ---- acknowledged counts

  pub acked_grows : (client : ℕ) (e : HistoryEntry) (past : Past) → acked_at cfg client past ≤ acked_at cfg client (e ∷ past)
  acked_grows client e past =
      let grown = reading_grows (filter_map ack_stored) (filter_map-append ack_stored) cfg (nodes.Client client) e past in
      length_stays _ _ (acked_at cfg client past) grown (omega arith)

  abbrev AreAcked : Past → Type 0
  AreAcked past = (client : ℕ) (home : Home) → Contains (homes_at cfg client past) home → home.first ≤ acked_at cfg client past

  acked_next : (e : HistoryEntry) (past : Past) → IsPastOf cfg (e ∷ past) → AreAcked past → AreAcked (e ∷ past)
  acked_next e past run before client home there =
      let more = acked_grows client e past in
      elim (homes_next e past run client) [
        | inl same ↦ omega (arith, more, before client home (subst (λ l. Contains l home) same there))
        | inr m ↦ elim (Contains-append_cases (homes_at cfg client past) (m.later ∷ []) home (subst (λ l. Contains l home) m.now there)) [
          | inl old ↦ omega (arith, more, before client home old)
          | inr new ↦ elim (Contains_cases m.later home [] new) [
            | inl is ↦ omega (arith, more, m.acked, ap (λ (h : Home). h.first) is)
            | inr none ↦ absurd (Contains_none home none)
          ]
        ]
      ]

  first_acked : AreAcked []
  first_acked client home there = elim (Contains_cases (given_home cfg client) home [] there) [
    | inl is ↦ omega (arith, ap (λ (h : Home). h.first) is)
    | inr none ↦ absurd (Contains_none home none)
  ]

  pub are_acked : (past : Past) → IsPastOf cfg past → AreAcked past
  are_acked = every_past cfg AreAcked first_acked acked_next
