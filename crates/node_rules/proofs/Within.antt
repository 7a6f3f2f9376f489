-- Turns that stay within the cluster: what a node knows and sends names nodes of the cluster alone.
use Rattle.std.proofs.Common.{◌≡◌, ℕ, zero, suc, ◌+◌, ◌%◌, ◌<◌, ◌&&◌, true, not, nat_lt, List, [], ◌∷◌, ◌++◌, map, length, Option, Some, None, sym, subst, arith}
use Rattle.std.specs.List.{AllByRecursion, range_with_len}
use Rattle.std.proofs.lemmas.Bool.{and_parts, ltb-true}
use Rattle.msg_wire.specs.Nodes.{same_node, is_node_of, is_sequencer, number_of, sequencers_of, consumers_of}
use Rattle.msg_wire.specs.Heeded.{goes_between, is_heeded}
use Rattle.msg_wire.specs.Valid.{IsValidConfig, IsNodeOf}
use Rattle.node_rules.specs.Names.{NodeId, Config, Row, Entry, Record, Message, What, Item, Event, Command}
use Rattle.node_rules.specs.Names.records
use Rattle.node_rules.specs.Names.entries
use Rattle.node_rules.specs.Names.commands
use Rattle.node_rules.specs.Names.whats
use Rattle.node_rules.specs.Names.nodes
use Rattle.node_rules.specs.Names.events
use Rattle.node_rules.specs.Nodes.{Base, Node, asked_by}
use Rattle.node_rules.specs.Turns.{Turn, message_to}
use Rattle.node_rules.proofs.Lists.{on_test, all_push}
use Rattle.node_rules.proofs.Places.{Comes, IsTold, Asks, asks_on, asks_at_tick, Places, SitesAfter, same_own, Sites}

-- ---- what names nodes of the cluster alone

-- a table's shards have nodes
abbrev pub HaveNodes : Config → List Row → Type 0
HaveNodes c = AllByRecursion (λ (r : Row). r.shard < c.shards)

abbrev pub HasNodes : Config → Entry → Type 0
HasNodes c (entries.Table after rounds rows) = HaveNodes c rows
HasNodes c _ = Unit {0}

abbrev pub MayHaveNodes : Config → Option Entry → Type 0
MayHaveNodes c None = Unit {0}
MayHaveNodes c (Some entry) = HasNodes c entry

abbrev pub ReportHasNodes : Config → Option (ℕ × Entry) → Type 0
ReportHasNodes c None = Unit {0}
ReportHasNodes c (Some (ballot, entry)) = HasNodes c entry

abbrev pub CommandHasNodes : Config → Command → Type 0
CommandHasNodes c (commands.Table rounds rows) = HaveNodes c rows
CommandHasNodes c (commands.Remove shard) = Unit {0}

-- a record's client is the cluster's
abbrev pub HasClient : Config → Record → Type 0
HasClient c records.Noop = Unit {0}
HasClient c (records.Data client number body) = client < length c.homes

abbrev pub SaysWithin : Config → What → Type 0
SaysWithin c (whats.Replicate local rec) = HasClient c rec
SaysWithin c (whats.Promise slot ballot report) = ReportHasNodes c report
SaysWithin c (whats.Accept slot ballot entry) = HasNodes c entry
SaysWithin c (whats.Decided slot count entry) = HasNodes c entry
SaysWithin c _ = Unit {0}

-- a message goes to a node of the cluster
pub record GoesWithin (c : Config) (m : Message) : Type 0 where
  pub to : IsNodeOf c m.to
  pub what : SaysWithin c m.what

abbrev pub TakesWithin : Config → Event → Type 0
TakesWithin c (events.Deliver message) = SaysWithin c message.what
TakesWithin c (events.Command command) = CommandHasNodes c command
TakesWithin c _ = Unit {0}

-- ---- nodes and turns

-- the node is one of the cluster, and what it knows and has names its nodes
pub record IsWithin (c : Config) (S : Type 0) (P : NodeId → S → Type 0) (n : Node S) : Type 0 where
  pub cfg : n.base.cfg ≡ c
  pub me : IsNodeOf c n.base.me
  pub known : AllByRecursion (HasNodes c) n.base.known
  pub own : P n.base.me n.own

-- and it sends to its nodes
pub record StaysWithin (c : Config) (S : Type 0) (P : NodeId → S → Type 0) (t : Turn S) : Type 0 where
  pub is : IsWithin c S P t.state
  pub sends : AllByRecursion (GoesWithin c) t.sends

-- ---- nodes of the cluster

node_within : (c : Config) (node : NodeId) → is_node_of c node ≡ true → IsNodeOf c node
node_within c (nodes.Seq n) e = ltb-true n c.seqs e
node_within c (nodes.Shard n side) e = ltb-true n c.shards e
node_within c (nodes.Client n) e = ltb-true n (length c.homes) e
node_within c (nodes.Consumer n) e = ltb-true n c.consumers e

pub range_within : (c : Config) (make : ℕ → NodeId) (from count : ℕ) → ((i : ℕ) → i < from + count → IsNodeOf c (make i))
    → AllByRecursion (IsNodeOf c) (map make (range_with_len from count))
range_within c make from zero each = tt
range_within c make from (suc count) each = (each from (omega arith), range_within c make (from + 1) count (λ i below. each i (omega (arith, below))))

pub sequencers_within : (c d : Config) → d ≡ c → AllByRecursion (IsNodeOf c) (sequencers_of d)
sequencers_within c d same = subst (λ (e : Config). AllByRecursion (IsNodeOf c) (sequencers_of e)) (sym same) (range_within c nodes.Seq 0 c.seqs (λ i below. omega (arith, below)))

pub consumers_within : (c d : Config) → d ≡ c → AllByRecursion (IsNodeOf c) (consumers_of d)
consumers_within c d same = subst (λ (e : Config). AllByRecursion (IsNodeOf c) (consumers_of e)) (sym same) (range_within c nodes.Consumer 0 c.consumers (λ i below. omega (arith, below)))

pub some_sequencer : (c : Config) → IsValidConfig c → 0 < c.seqs
some_sequencer c valid = grind (arith, valid.seqs)

abbrev MayBeNode : Config → Option NodeId → Type 0
MayBeNode c None = Unit {0}
MayBeNode c (Some node) = IsNodeOf c node

asked_within : {c : Config} (b : Base) → IsValidConfig c → b.cfg ≡ c → MayBeNode c (asked_by b)
asked_within {c} b valid same =
    let some : 0 < c.seqs = some_sequencer c valid in
    let below : (n : ℕ) → n % b.cfg.seqs < c.seqs = λ n. subst (λ (d : Config). n % d.seqs < c.seqs) (sym same) (let lower : n % c.seqs < c.seqs = omega (arith, some) in lower) in
    on_test (MayBeNode c) (is_sequencer b.me) _ _
    (λ _. on_test (MayBeNode c) (nat_lt 1 b.cfg.seqs) _ None (λ _. below (number_of b.me + 1)) (λ _. tt))
    (λ _. below b.ticks)

-- ---- what comes

-- from a node of the cluster, between the classes of its kind
pub record ComesWithin (c : Config) (from : NodeId) (what : What) : Type 0 where
  pub from_within : IsNodeOf c from
  pub says : SaysWithin c what
  pub to : NodeId
  pub goes : goes_between what from to ≡ true

pub heeded_parts : (c : Config) (me : NodeId) (m : Message) → is_heeded c me m ≡ true → IsNodeOf c m.from × (goes_between m.what m.from m.to ≡ true)
heeded_parts c me m e =
    let parts = and_parts (same_node m.to me && is_node_of c m.from) (not (same_node m.from m.to) && goes_between m.what m.from m.to) e in
    (node_within c m.from (and_parts (same_node m.to me) (is_node_of c m.from) parts.0).1, (and_parts (not (same_node m.from m.to)) (goes_between m.what m.from m.to) parts.1).1)

heeded_within : (c : Config) (me : NodeId) (m : Message) → SaysWithin c m.what → is_heeded c me m ≡ true → ComesWithin c m.from m.what
heeded_within c me m says e = let parts = heeded_parts c me m e in record { from_within = parts.0; says = says; to = m.to; goes = parts.1 }

pub comes_within : {c : Config} {S : Type 0} {P : NodeId → S → Type 0} (n : Node S) (event : Event) (from : NodeId) (what : What) → Comes n event from what
    → IsWithin c S P n → TakesWithin c event → ComesWithin c from what
comes_within {c} n event from what comes is takes =
    let heeded : is_heeded c n.base.me comes.message ≡ true = subst (λ (d : Config). is_heeded d n.base.me comes.message ≡ true) is.cfg comes.heeded in
    subst (λ (what : What). ComesWithin c from what) comes.says
    (subst (λ (from : NodeId). ComesWithin c from comes.message.what) comes.by (heeded_within c n.base.me comes.message (subst (TakesWithin c) comes.same takes) heeded))

-- a told entry names nodes of the cluster
pub told_within : {c : Config} {S : Type 0} {P : NodeId → S → Type 0} (n : Node S) (event : Event) (s : Node S) (entry : Entry) → IsTold n event s entry
    → IsWithin c S P n → TakesWithin c event → HasNodes c entry
told_within n event s entry told begins takes = (comes_within n event told.from (whats.Decided (length s.base.known) told.count entry) told.comes begins takes).says

pub asks_within : {c : Config} {S : Type 0} {P : NodeId → S → Type 0} (n : Node S) (event : Event) (s : Node S) (to : NodeId)
    → Asks n event s to → IsValidConfig c → IsWithin c S P n → TakesWithin c event → IsWithin c S P s → IsNodeOf c to
asks_within n event s _ (asks_on from slot count entry comes more free) valid begins takes is = (comes_within n event from (whats.Decided slot count entry) comes begins takes).from_within
asks_within {c} n event s _ (asks_at_tick to tick whom free) valid begins takes is = subst (MayBeNode c) whom (asked_within s.base valid is.cfg)

-- ---- the places of a kind

-- what is sent, and what the node comes to have, names nodes of the cluster
pub record KeepsWithin {S : Type 0} (p : Places S) (c : Config) (P : NodeId → S → Type 0) (n : Node S) (event : Event) : Type 0 where
  pub resets : IsWithin c S P n → IsWithin c S P (p.reset n)
  pub learns : (s : Node S) (entry : Entry) → p.Learns n event s entry → IsWithin c S P s → HasNodes c entry
  pub says : (s : Node S) (to : NodeId) (what : What) → p.Says n event s to what → IsWithin c S P s → IsNodeOf c to × SaysWithin c what
  pub stores : (s : Node S) (item : Item) (own : S) → p.Stores n event s item own → IsWithin c S P s → P s.base.me own
  pub changes : (s : Node S) (own : S) → p.Changes n event s own → IsWithin c S P s → P s.base.me own

module _ {S : Type 0} (p : Places S) (c : Config) (P : NodeId → S → Type 0) (n : Node S) (event : Event) (keeps : KeepsWithin p c P n event) where
  went : (t : Turn S) (to : NodeId) (what : What) → IsNodeOf c to × SaysWithin c what → StaysWithin c S P t
      → StaysWithin c S P (record t { sends = t.sends ++ message_to t what to ∷ [] })
  went t to what goes stays = record { is = stays.is; sends = all_push (GoesWithin c) t.sends (message_to t what to) stays.sends (record { to = goes.0; what = goes.1 }) }

  pub staying_after : (after : Node S → Entry → S) → ((s : Node S) (entry : Entry) → IsWithin c S P s → P s.base.me (after s entry)) → IsValidConfig c
      → IsWithin c S P n → TakesWithin c event
      → SitesAfter p after (StaysWithin c S P) n event
  staying_after after over valid begins takes = record {
    starts = record { is = begins; sends = tt };
    restarts = λ e. record { is = keeps.resets begins; sends = tt };
    learns = λ t entry why stays. record {
      is = record {
        cfg = stays.is.cfg;
        me = stays.is.me;
        known = all_push (HasNodes c) t.state.base.known entry stays.is.known (keeps.learns t.state entry why stays.is);
        own = over t.state entry stays.is;
      };
      sends = stays.sends;
    };
    sees = λ t from slot count entry why stays. record { is = record { cfg = stays.is.cfg; me = stays.is.me; known = stays.is.known; own = stays.is.own }; sends = stays.sends };
    ticks = λ t why stays. record { is = record { cfg = stays.is.cfg; me = stays.is.me; known = stays.is.known; own = stays.is.own }; sends = stays.sends };
    asks = λ t to why stays. went t to (whats.Learn (length t.state.base.known)) (asks_within n event t.state to why valid begins takes stays.is, tt) stays;
    says = λ t to what why stays. went t to what (keeps.says t.state to what why stays.is) stays;
    shows = λ t mark why stays. record { is = stays.is; sends = stays.sends };
    stores = λ t item own why stays. record {
      is = record { cfg = stays.is.cfg; me = stays.is.me; known = stays.is.known; own = keeps.stores t.state item own why stays.is };
      sends = stays.sends;
    };
    changes = λ t own why stays. record {
      is = record { cfg = stays.is.cfg; me = stays.is.me; known = stays.is.known; own = keeps.changes t.state own why stays.is };
      sends = stays.sends;
    };
  }

  pub staying : IsValidConfig c → IsWithin c S P n → TakesWithin c event → Sites p (StaysWithin c S P) n event
  staying valid begins takes = staying_after same_own (λ s entry is. is.own) valid begins takes
