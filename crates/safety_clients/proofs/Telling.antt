-- What clients tell shards is true of their homes, bodies and acknowledged counts: as it is sent it is read off the state, and later since all grow.
use Rattle.std.proofs.Common.{◌≡◌, ◌∙◌, ℕ, ◌+◌, ◌≤◌, true, List, [], ◌∷◌, ◌++◌, append_assoc, append-nil, Contains, refl, sym, ap, subst, arith}
use Rattle.std.specs.Prelude.{IsTrue}
use Rattle.std.specs.List.{AllByRecursion, filter_map}
use Rattle.std.proofs.lemmas.List.Elements.{filter_map-append, Contains-append_right}
use Rattle.majority.proofs.Lists.{Contains_here}
use Rattle.msg_wire.specs.Nodes.{is_client, replicas_of, same_node}
use Rattle.msg_wire.specs.Valid.{IsValidConfig}
use Rattle.net_model.specs.Pasts.{Past, sent}
use Rattle.node_rules.specs.Nodes.{Node}
use Rattle.node_rules.specs.Turns.{Turn, message_to, count_known}
use Rattle.node_rules.proofs.Lists.{all_at, all_push, all_weaken}
use Rattle.client_node.specs.States.{ClientState}
use Rattle.client_node.specs.Rules.{with_body, with_ack, with_home}
use Rattle.client_node.specs.Steps.{client_step}
use Rattle.client_node.proofs.Places.{Says, sends_body, asks_fate, Stores, submits, counts, moves}
use Rattle.client_node.proofs.Walk.{client_walk}
use Rattle.runs.specs.Names.{NodeId, Side, Config, Message, What, Item, Event, HistoryEntry}
use Rattle.runs.specs.Names.nodes
use Rattle.runs.specs.Names.items
use Rattle.runs.specs.Names.whats
use Rattle.runs.specs.Runs.{IsPastOf}
use Rattle.runs.specs.Homes.{Home, home_in, homes_at, OneFirstPerShard}
use Rattle.runs.specs.Marks.{IsPrefix}
use Rattle.runs.proofs.SameNodes.{node_itself}
use Rattle.safety_frame.specs.EveryRun.{OfEveryRun}
use Rattle.safety_frame.specs.StableItems.{IsLastHome, body_stored}
use Rattle.safety_frame.proofs.NodeKinds.{after, clients}
use Rattle.safety_frame.proofs.Pasts.{own_state, of_sequencer, of_replica, of_consumer, reading_grows}
use Rattle.safety_frame.proofs.Growth.{homes_grow}
use Rattle.safety_frame.proofs.Lists.{all_true, begins_itself, begins_more, index_stays, member_stays}
use Rattle.safety_frame.proofs.Senders.{every_sent}
use Rattle.safety_frame.proofs.StableItems.{client_is}
use Rattle.safety_clients.specs.Homes.{bodies_at, acked_at}
use Rattle.safety_clients.specs.Telling.{OfClient, IsAppended, AppendTells, AppendsTell, IsAsked, AskTells, AsksTell}
use Rattle.safety_clients.proofs.Homes.{same_first}
use Rattle.safety_clients.proofs.Moving.{homes_in, no_home}
use Rattle.safety_clients.proofs.Turns as turns

-- ---- it stays true

append_stays : (homes more : List Home) (bodies longer : List (List ℕ)) → IsPrefix homes more → IsPrefix bodies longer → (what : What) (to : NodeId)
    → AppendTells homes bodies what to → AppendTells more longer what to
append_stays homes more bodies longer p q (whats.Append first number body) (nodes.Shard shard side) is = record {
  home = member_stays homes more (record { shard = shard; first = first }) p is.home;
  from_first = is.from_first;
  submitted = index_stays bodies longer number body q is.submitted;
}
append_stays homes more bodies longer p q _ _ is = tt

ask_stays : (homes more : List Home) (acked now : ℕ) → IsPrefix homes more → acked ≤ now → (what : What) (to : NodeId)
    → AskTells homes acked what to → AskTells more now what to
ask_stays homes more acked now p le (whats.AskFate first least) (nodes.Shard shard side) is = record {
  home = member_stays homes more (record { shard = shard; first = first }) p is.home;
  from_first = is.from_first;
  acknowledged = omega (arith, le, is.acknowledged);
}
ask_stays homes more acked now p le _ _ is = tt

-- what is told, of a client's homes and of what it has
abbrev Said : List Home → List (List ℕ) → ℕ → What → NodeId → Type 0
Said homes bodies acked what to = AppendTells homes bodies what to × AskTells homes acked what to

said_stays : (homes more : List Home) (bodies longer : List (List ℕ)) (acked now : ℕ) → IsPrefix homes more → IsPrefix bodies longer → acked ≤ now
    → (what : What) (to : NodeId)
    → Said homes bodies acked what to → Said more longer now what to
said_stays homes more bodies longer acked now p q le what to is =
    (append_stays homes more bodies longer p q what to is.0, ask_stays homes more acked now p le what to is.1)

abbrev AllSaid : List Home → List (List ℕ) → ℕ → List Message → Type 0
AllSaid homes bodies acked = AllByRecursion (λ (m : Message). Said homes bodies acked m.what m.to)

all_stay : (homes more : List Home) (bodies longer : List (List ℕ)) (acked now : ℕ) → IsPrefix homes more → IsPrefix bodies longer → acked ≤ now
    → (sends : List Message)
    → AllSaid homes bodies acked sends → AllSaid more longer now sends
all_stay homes more bodies longer acked now p q le sends all =
    all_weaken (λ (m : Message). Said homes bodies acked m.what m.to) (λ (m : Message). Said more longer now m.what m.to) sends
    (λ m. said_stays homes more bodies longer acked now p q le m.what m.to) all

-- ---- a step

-- the client's home is the last one, its first number is acknowledged up to, and what was sent is true
abbrev Stands : List Home → ClientState → List Message → Type 0
Stands homes own sends = IsLastHome homes own × (own.first ≤ own.acked) × AllSaid homes own.bodies own.acked sends

-- one message more
one_said : (homes : List Home) (own : ClientState) (t : Turn ClientState) (to : NodeId) (what : What) → AllSaid homes own.bodies own.acked t.sends
    → Said homes own.bodies own.acked what to
    → AllSaid homes own.bodies own.acked (t.sends ++ message_to t what to ∷ [])
one_said homes own t to what all said =
    all_push (λ (m : Message). Said homes own.bodies own.acked m.what m.to) t.sends (message_to t what to) all said

last_there : (homes : List Home) (own : ClientState) → IsLastHome homes own → Contains homes (record { shard = own.home; first = own.first })
last_there homes own last =
    let home : Home = record { shard = own.home; first = own.first } in
    subst (λ l. Contains l home) (sym last.1) (Contains-append_right last.0 (home ∷ []) home (Contains_here home []))

module _ (n : Node ClientState) (event : Event) (before : List Home) where
  abbrev Homes : List Item → List Home
  Homes stable = before ++ homes_in stable

  abbrev OfTurn : Turn ClientState → Type 0
  OfTurn t = Stands (Homes t.stable) t.state.own t.sends

  same_homes : (stable : List Item) (item : Item) → homes_in (item ∷ []) ≡ [] → Homes (stable ++ item ∷ []) ≡ Homes stable
  same_homes stable item none = ap (λ l. before ++ l) (no_home stable item none)

  one_home : (stable : List Item) (shard first : ℕ)
      → Homes (stable ++ items.Moved shard first ∷ []) ≡ Homes stable ++ record { shard = shard; first = first } ∷ []
  one_home stable shard first =
      ap (λ l. before ++ l) (filter_map-append home_in stable (items.Moved shard first ∷ []))
      ∙ sym (append_assoc before (homes_in stable) (record { shard = shard; first = first } ∷ []))

  said : (homes : List Home) (s : Node ClientState) (to : NodeId) (what : What) → Says n event s to what → IsLastHome homes s.own → s.own.first ≤ s.own.acked
      → Said homes s.own.bodies s.own.acked what to
  said homes s _ _ (sends_body number body from below at) last le =
      (record { home = last_there homes s.own last; from_first = omega (arith, le, from); submitted = at }, tt)
  said homes s to _ (asks_fate _ i at gone) last le =
      let is : IsAsked homes s.own.acked s.own.home s.own.first s.own.acked =
      record { home = last_there homes s.own last; from_first = le; acknowledged = omega arith } in
      all_at (λ node. Said homes s.own.bodies s.own.acked (whats.AskFate s.own.first s.own.acked) node) (replicas_of s.own.home) i to
      ((tt, is), ((tt, is), tt)) at

  stored : (t : Turn ClientState) (item : Item) (own : ClientState) → Stores n event t.state item own → OfTurn t
      → Stands (Homes (t.stable ++ item ∷ [])) own t.sends
  stored t _ _ (submits by body submit room) w =
      let hs = Homes t.stable in
      let own = t.state.own in
      subst (λ l. Stands l (with_body body own) t.sends) (sym (same_homes t.stable (items.Submitted body) refl)) (
        w.0,
        w.1,
        all_stay hs hs own.bodies (own.bodies ++ body ∷ []) own.acked own.acked (begins_itself hs) (begins_more own.bodies (body ∷ [])) (omega arith) t.sends
            w.2,
      )
  stored t _ _ (counts from number position comes next room) w =
      let hs = Homes t.stable in
      let own = t.state.own in
      subst (λ l. Stands l (with_ack own) t.sends) (sym (same_homes t.stable items.Acked refl)) (
        w.0,
        omega (arith, w.1),
        all_stay hs hs own.bodies own.bodies own.acked (own.acked + 1) (begins_itself hs) (begins_itself own.bodies) (omega arith) t.sends w.2,
      )
  stored t _ _ (moves from next row comes home gone next_is row_is) w =
      let hs = Homes t.stable in
      let own = t.state.own in
      let more : List Home = record { shard = row.shard; first = next } ∷ [] in
      subst (λ l. Stands l (with_home row.shard next own) t.sends) (sym (one_home t.stable row.shard next)) (
        (hs, refl),
        omega (arith, next_is),
        all_stay hs (hs ++ more) own.bodies own.bodies own.acked own.acked (begins_more hs more) (begins_itself own.bodies) (omega arith) t.sends w.2,
      )

  step_stands : IsLastHome before n.own → n.own.first ≤ n.own.acked → OfTurn (client_step n event)
  step_stands last le =
      let start : Stands (Homes []) n.own [] = (subst (λ l. IsLastHome l n.own) (sym (append-nil before)) last, le, tt) in
      client_walk OfTurn n event
      (record {
        starts = start;
        restarts = λ e. start;
        learns = λ t entry why w. subst (λ l. Stands l t.state.own t.sends) (sym (same_homes t.stable (items.Known entry) refl)) w;
        sees = λ t from slot count entry why w. w;
        ticks = λ t why w. w;
        asks = λ t to why w. (w.0, w.1, one_said (Homes t.stable) t.state.own t to (whats.Learn (count_known t)) w.2 (tt, tt));
        says = λ t to what why w.
            (w.0, w.1, one_said (Homes t.stable) t.state.own t to what w.2 (said (Homes t.stable) t.state to what why w.0 w.1));
        shows = λ t mark why w. w;
        stores = λ t item own why w. stored t item own why w;
        changes = λ t own why w. absurd why;
      })

-- ---- every run

module _ (cfg : Config) (valid : IsValidConfig cfg) where
  abbrev Tells : Past → NodeId → NodeId → What → Type 0
  Tells past from to what = OfClient (λ client. Said (homes_at cfg client past) (bodies_at cfg client past) (acked_at cfg client past) what to) from

  pub bodies_grow : (client : ℕ) (e : HistoryEntry) (past : Past) → IsPrefix (bodies_at cfg client past) (bodies_at cfg client (e ∷ past))
  bodies_grow client e past = reading_grows (filter_map body_stored) (filter_map-append body_stored) cfg (nodes.Client client) e past

  still : (e : HistoryEntry) (past : Past) (from to : NodeId) (what : What) → Tells past from to what → Tells (e ∷ past) from to what
  still e past (nodes.Client client) to what is =
      said_stays (homes_at cfg client past) (homes_at cfg client (e ∷ past)) (bodies_at cfg client past) (bodies_at cfg client (e ∷ past))
      (acked_at cfg client past) (acked_at cfg client (e ∷ past))
      (homes_grow cfg client e past) (bodies_grow client e past) (turns.acked_grows cfg valid client e past) what to is
  still e past _ to what is = tt

  module _ (e : HistoryEntry) (past : Past) (run : IsPastOf cfg (e ∷ past)) where
    client_tells : (client : ℕ) → same_node e.node (nodes.Client client) ≡ true
        → AllByRecursion (λ (m : Message). Tells (e ∷ past) (nodes.Client client) m.to m.what)
        (clients.step (after clients cfg (nodes.Client client) past) e.event).sends
    client_tells client own =
        let node = nodes.Client client in
        let n = after clients cfg node past in
        let is = turns.is cfg valid client e past run own in
        let last = last_there (homes_at cfg client past) n.own is.home in
        let le : n.own.first ≤ n.own.acked = omega (arith, turns.are_acked cfg valid past run.1 client _ last, is.acked) in
        let stands = step_stands n e.event (homes_at cfg client past) is.home le in
        let now = client_is cfg (e ∷ past) valid run client (turns.here cfg valid client e past run own) in
        let left = sym (own_state clients cfg node e past valid run own) in
        let homes = sym (turns.homes_now cfg valid client e past run own) in
        let step = client_step n e.event in
        let counted =
        subst (λ k. AllSaid (homes_at cfg client past ++ homes_in step.stable) step.state.own.bodies k step.sends)
        (ap (λ (s : Node ClientState). s.own.acked) left ∙ now.acked) stands.2 in
        let submitted =
        subst (λ bs. AllSaid (homes_at cfg client past ++ homes_in step.stable) bs (acked_at cfg client (e ∷ past)) step.sends)
        (ap (λ (s : Node ClientState). s.own.bodies) left ∙ now.bodies) counted in
        subst (λ hs. AllSaid hs (bodies_at cfg client (e ∷ past)) (acked_at cfg client (e ∷ past)) step.sends) homes submitted

    node_tells : (node : NodeId) → e.node ≡ node → IsTrue (is_client node)
        → AllByRecursion (λ (m : Message). Tells (e ∷ past) node m.to m.what) (clients.step (after clients cfg node past) e.event).sends
    node_tells (nodes.Client client) is one =
        client_tells client (ap (λ x. same_node x (nodes.Client client)) is ∙ node_itself (nodes.Client client))
    node_tells _ is one = absurd (cc)

  all_tell : (past : Past) → IsPastOf cfg past → (m : Message) → Contains (sent past) m → Tells past m.from m.to m.what
  all_tell =
      every_sent cfg valid Tells
      (record {
        stays = λ e past m run there was. still e past m.from m.to m.what was;
        at_sequencers = λ e past run one before. all_true _ _ (λ m. of_sequencer (λ node. Tells (e ∷ past) node m.to m.what) (λ k. tt) e.node one);
        at_replicas = λ e past run one before. all_true _ _ (λ m. of_replica (λ node. Tells (e ∷ past) node m.to m.what) (λ k side. tt) e.node one);
        at_clients = λ e past run one before. node_tells e past run e.node refl one;
        at_consumers = λ e past run one before. all_true _ _ (λ m. of_consumer (λ node. Tells (e ∷ past) node m.to m.what) (λ k. tt) e.node one);
      })

of_client_only : (P Q : ℕ → Type 0) → ((client : ℕ) → P client → Q client) → (node : NodeId) → OfClient P node → OfClient Q node
of_client_only P Q each (nodes.Client client) is = each client is
of_client_only P Q each _ is = tt

pub appends_tell : OfEveryRun AppendsTell
appends_tell cfg past valid run m there = of_client_only
    (λ client. Said (homes_at cfg client past) (bodies_at cfg client past) (acked_at cfg client past) m.what m.to)
    (λ client. AppendTells (homes_at cfg client past) (bodies_at cfg client past) m.what m.to) (λ client is. is.0) m.from (all_tell cfg valid past run m there)

pub asks_tell : OfEveryRun AsksTell
asks_tell cfg past valid run m there = of_client_only
    (λ client. Said (homes_at cfg client past) (bodies_at cfg client past) (acked_at cfg client past) m.what m.to)
    (λ client. AskTells (homes_at cfg client past) (acked_at cfg client past) m.what m.to) (λ client is. is.1) m.from (all_tell cfg valid past run m there)

-- ---- of a message that came

pub appended_there : (cfg : Config) (valid : IsValidConfig cfg) (past : Past) → IsPastOf cfg past → (client shard first number : ℕ) (body : List ℕ)
    → (m : Message) → Contains (sent past) m
    → m.from ≡ nodes.Client client → (side : Side) → m.to ≡ nodes.Shard shard side → m.what ≡ whats.Append first number body
    → IsAppended (homes_at cfg client past) (bodies_at cfg client past) shard first number body
appended_there cfg valid past run client shard first number body m there from side to says =
    let homes = homes_at cfg client past in
    let bodies = bodies_at cfg client past in
    let told =
    subst (OfClient (λ c. AppendTells (homes_at cfg c past) (bodies_at cfg c past) m.what m.to)) from (appends_tell cfg past valid run m there) in
    subst (λ x. AppendTells homes bodies (whats.Append first number body) x) to (subst (λ w. AppendTells homes bodies w m.to) says told)

pub asked_there : (cfg : Config) (valid : IsValidConfig cfg) (past : Past) → IsPastOf cfg past → (client shard first least : ℕ)
    → (m : Message) → Contains (sent past) m
    → m.from ≡ nodes.Client client → (side : Side) → m.to ≡ nodes.Shard shard side → m.what ≡ whats.AskFate first least
    → IsAsked (homes_at cfg client past) (acked_at cfg client past) shard first least
asked_there cfg valid past run client shard first least m there from side to says =
    let homes = homes_at cfg client past in
    let acked = acked_at cfg client past in
    let told = subst (OfClient (λ c. AskTells (homes_at cfg c past) (acked_at cfg c past) m.what m.to)) from (asks_tell cfg past valid run m there) in
    subst (λ x. AskTells homes acked (whats.AskFate first least) x) to (subst (λ w. AskTells homes acked w m.to) says told)

-- ---- one first number at a shard

pub one_first_per_shard : OfEveryRun (λ cfg past. OneFirstPerShard past)
one_first_per_shard cfg past valid run client shard first other one two =
    let here = appended_there cfg valid past run client shard first one.1 one.2 _ one.3 refl one.0 refl refl in
    let there = appended_there cfg valid past run client shard other two.1 two.2 _ two.3 refl two.0 refl refl in
    same_first cfg valid past run client (record { shard = shard; first = first }) (record { shard = shard; first = other }) here.home there.home refl
