-- Every message of a run goes to another node, between the classes of its kind, and is heeded where it comes.
use Rattle.std.proofs.Common.{◌≡◌, ◌∙◌, ℕ, ◌==◌, ◌&&◌, not, Bool, true, false, [], ◌∷◌, length, Contains, Some, refl, sym, ap, subst}
use Rattle.std.specs.List.{slice_get}
use Rattle.std.proofs.lemmas.Bool.{and_parts, and_from, not_from_false, lt-ltb, eq-eqb, eqb-true}
use Rattle.msg_wire.specs.Heeded.{goes_between, is_heeded}
use Rattle.msg_wire.specs.Nodes.{is_node_of, is_sequencer, is_replica, is_primary, is_backup, is_client, is_consumer, number_of, same_node, same_shard, sequencers_of, consumers_of, nodes_of, replicas_of}
use Rattle.msg_wire.specs.Valid.{IsValidConfig, IsNodeOf}
use Rattle.net_model.specs.Pasts.{Past, Throughout, sent}
use Rattle.node_rules.specs.Nodes.{Node}
use Rattle.record_codec.specs.declared.record.Record.{Record}
use Rattle.node_rules.proofs.Lists.{all_at, all_weaken}
use Rattle.seq_node.specs.States.{SequencerState}
use Rattle.seq_node.proofs.Places as seq
use Rattle.shard_node.specs.States.{ReplicaState}
use Rattle.shard_node.proofs.Places as shard
use Rattle.client_node.specs.States.{ClientState}
use Rattle.client_node.proofs.Places as client
use Rattle.app_law.specs.declared.any_app.AnyApp.{AnyApp}
use Rattle.consumer_node.specs.States.{ConsumerState}
use Rattle.consumer_node.proofs.Places as consumer
use Rattle.runs.specs.Names.{NodeId, Config, Message, What, Event}
use Rattle.runs.specs.Names.nodes
use Rattle.runs.specs.Names.sides
use Rattle.runs.specs.Names.events
use Rattle.runs.specs.Names.whats
use Rattle.runs.specs.Runs.{Comes as ComesIn, IsPastOf}
use Rattle.runs.proofs.SameNodes.{node_itself}
use Rattle.safety_frame.specs.Heeded.{Goes, IsHeeded, MessagesAreHeeded}
use Rattle.safety_frame.proofs.NodeKinds.{Kind, after, sequencers, replicas, clients, consumers}
use Rattle.safety_frame.proofs.Names.{IsNamed, states_named}
use Rattle.safety_frame.proofs.Senders.{all_from, SendsKeep, every_sent}
use Rattle.safety_frame.proofs.Lists.{all_true}
use Rattle.safety_frame.proofs.Going.{GoesTo, SaysGo, step_goes, came, differs, sequencer_is_no, consumer_is_no, class_of_all, among_others}

-- ---- replicas

same_shard_back : (a b : NodeId) → same_shard a b ≡ true → same_shard b a ≡ true
same_shard_back a b same =
    let parts = and_parts (is_replica a && is_replica b) (number_of a == number_of b) same in
    let both = and_parts (is_replica a) (is_replica b) parts.0 in
    and_from (is_replica b && is_replica a) (number_of b == number_of a) (and_from (is_replica b) (is_replica a) both.1 both.0)
    (eq-eqb (number_of b) (number_of a) (sym (eqb-true (number_of a) (number_of b) parts.1)))

and_never : (b : Bool) → b && false ≡ false
and_never true = refl
and_never false = refl

-- a primary's copy goes to its backup
copy_goes : (me : NodeId) (local : ℕ) (rec : Record) → is_primary me ≡ true → GoesTo me (nodes.Shard (number_of me) sides.Backup) (whats.Replicate local rec)
copy_goes (nodes.Shard n sides.Primary) local rec primary = (and_never (n == n), and_from true (n == n) refl (eq-eqb n n refl))
copy_goes _ local rec primary = absurd (cc)

module _ (n : Node ReplicaState) (event : Event) (me : is_replica n.base.me ≡ true) where
  to_sequencer : (to : NodeId) (len : ℕ) → is_sequencer to ≡ true → GoesTo n.base.me to (whats.Report len)
  to_sequencer to len is = (differs is_replica n.base.me to me (sequencer_is_no to is).0, and_from (is_replica n.base.me) (is_sequencer to) me is)

  to_consumer : (to : NodeId) (local : ℕ) (rec : Record) → is_consumer to ≡ true → GoesTo n.base.me to (whats.Deliver local rec)
  to_consumer to local rec is = (differs is_replica n.base.me to me (consumer_is_no to is), and_from (is_replica n.base.me) (is_consumer to) me is)

  -- back to a client that asked
  to_client : (to : NodeId) (number position : ℕ) → same_node n.base.me to ≡ false → is_client to ≡ true → GoesTo n.base.me to (whats.Ack number position)
  to_client to number position other is = (other, and_from (is_replica n.base.me) (is_client to) me is)

  replica_says : SaysGo replicas n event
  replica_says s to _ named (shard.reports _ i at) =
      to_sequencer to (length s.own.log)
      (all_at (λ node. is_sequencer node ≡ true) (sequencers_of s.base.cfg) i to (class_of_all is_sequencer nodes.Seq s.base.cfg.seqs (λ j. refl)) at)
  replica_says s _ _ named (shard.copies local rec primary at) =
      subst (λ node. GoesTo node (nodes.Shard (number_of s.base.me) sides.Backup) (whats.Replicate local rec)) named.1 (copy_goes s.base.me local rec primary)
  replica_says s from _ named (shard.tells_length _ local rec comes) =
      let here = came n event from (whats.Replicate local rec) comes in
      let parts = and_parts (is_primary from && is_backup n.base.me) (same_shard from n.base.me) here.1 in
      let both = and_parts (is_primary from) (is_backup n.base.me) parts.0 in (
        here.0,
        and_from (is_backup n.base.me && is_primary from) (same_shard n.base.me from) (and_from (is_backup n.base.me) (is_primary from) both.1 both.0)
            (same_shard_back from n.base.me parts.1),
      )
  replica_says s to _ named (shard.promises _ i position rec there why) =
      to_consumer to s.own.promised rec
      (all_at (λ node. is_consumer node ≡ true) (consumers_of s.base.cfg) i to (class_of_all is_consumer nodes.Consumer s.base.cfg.consumers (λ j. refl)) there)
  replica_says s from _ named (shard.fetched _ local rec comes durable at) =
      to_consumer from local rec (and_parts (is_consumer from) (is_replica n.base.me) (came n event from (whats.Fetch local) comes).1).0
  replica_says s _ _ named (shard.confirms local position client number body primary why) =
      to_client (nodes.Client client) number position (differs is_replica n.base.me (nodes.Client client) me refl) refl
  replica_says s from _ named (shard.acks_again _ first number body local position comes low stands place) =
      let here = came n event from (whats.Append first number body) comes in
      to_client from number position here.0 (and_parts (is_client from) (is_primary n.base.me) here.1).0
  replica_says s from _ named (shard.acks_fate _ least next local position why below stands place) =
      let here = came n event from (whats.AskFate why.first least) why.comes in
      to_client from least position here.0 (and_parts (is_client from) (is_replica n.base.me) here.1).0
  replica_says s from _ named (shard.fates _ least next why above) =
      let here = came n event from (whats.AskFate why.first least) why.comes in
      (here.0, and_from (is_replica n.base.me) (is_client from) me (and_parts (is_client from) (is_replica n.base.me) here.1).0)

-- ---- clients and consumers

client_says : (n : Node ClientState) (event : Event) → is_client n.base.me ≡ true → SaysGo clients n event
client_says n event me s _ _ named (client.sends_body number body from below at) =
    (differs is_client n.base.me (nodes.Shard s.own.home sides.Primary) me refl, and_from (is_client n.base.me) true me refl)
client_says n event me s to _ named (client.asks_fate _ i at gone) =
    let there = all_at (λ node. (is_replica node ≡ true) × (is_client node ≡ false)) (replicas_of s.own.home) i to ((refl, refl), ((refl, refl), tt)) at in
    (differs is_client n.base.me to me there.1, and_from (is_client n.base.me) (is_replica to) me there.0)

consumer_says : (n : Node (ConsumerState AnyApp)) (event : Event) → is_consumer n.base.me ≡ true → SaysGo consumers n event
consumer_says n event me s _ _ named (consumer.fetches_wanted o side position tick there wanted) =
    (differs is_consumer n.base.me (nodes.Shard o.shard side) me refl, and_from (is_consumer n.base.me) true me refl)

-- ---- sequencers

module _ (n : Node SequencerState) (event : Event) (me : is_sequencer n.base.me ≡ true) where
  asks_for : (to : NodeId) (slot : ℕ) → seq.AsksFor n event to slot → same_node n.base.me to ≡ false
  asks_for to slot (seq.by_learn comes) = (came n event to _ comes).0
  asks_for to slot (seq.by_prepare ballot comes) = (came n event to _ comes).0
  asks_for to slot (seq.by_accept ballot entry comes) = (came n event to _ comes).0

  -- another sequencer
  other_of : (s : Node SequencerState) (i : ℕ) (to : NodeId) → IsNamed n.base.cfg n.base.me s → slice_get (seq.others_of s) i ≡ Some to
      → (same_node n.base.me to ≡ false) × (is_sequencer n.base.me && is_sequencer to ≡ true)
  other_of s i to named at =
      let there =
      among_others (λ node. is_sequencer node ≡ true) s.base.me (sequencers_of s.base.cfg) i to
      (class_of_all is_sequencer nodes.Seq s.base.cfg.seqs (λ j. refl)) at in
      (subst (λ node. same_node node to ≡ false) named.1 there.1, and_from (is_sequencer n.base.me) (is_sequencer to) me there.0)

  -- the one that asked
  asker : (to : NodeId) → (is_sequencer to && is_sequencer n.base.me) ≡ true → is_sequencer n.base.me && is_sequencer to ≡ true
  asker to goes = and_from (is_sequencer n.base.me) (is_sequencer to) me (and_parts (is_sequencer to) (is_sequencer n.base.me) goes).0

  sequencer_says : SaysGo sequencers n event
  sequencer_says s to _ named (seq.tells _ slot entry why known here) = (asks_for to slot why, me)
  sequencer_says s to _ named (seq.announces _ i slot entry at more here) =
      let others = among_others (λ node. Unit {0}) s.base.me (nodes_of s.base.cfg) i to (all_true _ (nodes_of s.base.cfg) (λ node. tt)) at in
      (subst (λ node. same_node node to ≡ false) named.1 others.1, me)
  sequencer_says s to _ named (seq.promises _ slot ballot report comes unknown stands) =
      let here = came n event to (whats.Prepare slot ballot) comes in
      (here.0, asker to here.1)
  sequencer_says s to _ named (seq.accepts _ slot ballot entry comes unknown stands) =
      let here = came n event to (whats.Accept slot ballot entry) comes in
      (here.0, asker to here.1)
  sequencer_says s to _ named (seq.prepares _ i a at stands slot none promised) = other_of s i to named at
  sequencer_says s to _ named (seq.proposes _ i a value at stands sending accepted) = other_of s i to named at
  sequencer_says s _ _ named (seq.fills i w tick uncovered at) =
      (differs is_sequencer n.base.me (nodes.Shard w.shard sides.Primary) me refl, and_from (is_sequencer n.base.me) true me refl)

-- ---- runs

is_there : (cfg : Config) (node : NodeId) → IsNodeOf cfg node → is_node_of cfg node ≡ true
is_there cfg (nodes.Seq n) here = lt-ltb _ _ here
is_there cfg (nodes.Shard n side) here = lt-ltb _ _ here
is_there cfg (nodes.Client n) here = lt-ltb _ _ here
is_there cfg (nodes.Consumer n) here = lt-ltb _ _ here

abbrev Leaves : Config → Past → NodeId → NodeId → What → Type 0
Leaves cfg past from to what = IsNodeOf cfg from × GoesTo from to what

module _ (cfg : Config) (valid : IsValidConfig cfg) where
  kind_keeps : {S : Type 0} (k : Kind S) → ((n : Node S) (event : Event) → k.IsOne n.base.me → SaysGo k n event) → SendsKeep cfg valid k (Leaves cfg)
  kind_keeps k says e past run one before =
      let n = after k cfg e.node past in
      let named = states_named k cfg valid past run.1 e.node one run.0.within in
      let valid_there = subst IsValidConfig (sym named.0) valid in
      let within = subst (λ c. IsNodeOf c n.base.me) (sym named.0) (subst (IsNodeOf cfg) (sym named.1) run.0.within) in
      let goes = step_goes k n e.event valid_there within (says n e.event (subst k.IsOne (sym named.1) one)) in
      all_weaken (λ (m : Message). GoesTo n.base.me m.to m.what) (λ (m : Message). Leaves cfg (e ∷ past) e.node m.to m.what) (k.step n e.event).sends
      (λ m to. (run.0.within, subst (λ node. GoesTo node m.to m.what) named.1 to)) goes

  all_leave : (past : Past) → IsPastOf cfg past → (m : Message) → Contains (sent past) m → Leaves cfg past m.from m.to m.what
  all_leave =
      every_sent cfg valid (Leaves cfg)
      (record {
        stays = λ e past m run there was. was;
        at_sequencers = kind_keeps sequencers sequencer_says;
        at_replicas = kind_keeps replicas replica_says;
        at_clients = kind_keeps clients client_says;
        at_consumers = kind_keeps consumers consumer_says;
      })

  goes : (past : Past) → IsPastOf cfg past → (m : Message) → Contains (sent past) m → Goes cfg m
  goes past run m there =
      let leaves = all_leave past run m there in
      record { from_there = is_there cfg m.from leaves.0; other = leaves.1.0; between = leaves.1.1 }

  heeded_there : (node : NodeId) (m : Message) → m.to ≡ node → Goes cfg m → is_heeded cfg node m ≡ true
  heeded_there node m to goes =
      and_from (same_node m.to node && is_node_of cfg m.from) (not (same_node m.from m.to) && goes_between m.what m.from m.to)
      (and_from (same_node m.to node) (is_node_of cfg m.from) (ap (λ x. same_node x node) to ∙ node_itself node) goes.from_there)
      (and_from (not (same_node m.from m.to)) (goes_between m.what m.from m.to) (not_from_false _ goes.other) goes.between)

  heeded_event : (past : Past) → IsPastOf cfg past → (node : NodeId) (event : Event) → ComesIn past node event → IsHeeded cfg node event
  heeded_event past run node (events.Deliver m) comes = heeded_there node m comes.0 (goes past run m comes.1)
  heeded_event past run node _ comes = tt

  entries_heeded : (past : Past) → IsPastOf cfg past → Throughout (λ past e. IsHeeded cfg e.node e.event) past
  entries_heeded [] run = tt
  entries_heeded (e ∷ past) run = (heeded_event past run.1 e.node e.event run.0.comes, entries_heeded past run.1)

pub messages_are_heeded : MessagesAreHeeded
messages_are_heeded cfg past valid run = record {
  senders = all_from cfg valid past run;
  messages = goes cfg valid past run;
  entries = entries_heeded cfg valid past run;
}
