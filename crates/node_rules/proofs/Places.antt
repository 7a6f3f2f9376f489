-- The places of a step table at which a node learns, stores, sends, shows or changes, and what is known there: each kind of node
-- lists its own, and proves once that its whole step is made of them.
use Rattle.std.proofs.Common.{◌≡◌, ℕ, ◌<◌, true, List, [], length, Some}
use Rattle.cut_core.specs.Agreements.{Agreement}
use Rattle.msg_wire.specs.Heeded.{is_heeded}
use Rattle.node_rules.specs.Names.{NodeId, Entry, Item, Message, What, Mark, Event}
use Rattle.node_rules.specs.Names.events
use Rattle.node_rules.specs.Names.whats
use Rattle.node_rules.specs.Nodes.{Base, Node, agreed_by, knowing, reset_base, has_slot, asked_by}
use Rattle.node_rules.specs.Turns.{Turn, started, count_known, put_own, store, send, show}
use Rattle.node_rules.specs.Rules.{learned, with_seen, with_tick}

-- ---- what is known at places of every node: of a step that begins at a node with an event, where a node has come about so far

-- a message comes, and is heeded
pub record Comes {S : Type 0} (n : Node S) (event : Event) (from : NodeId) (what : What) : Type 0 where
  pub message : Message
  pub same : event ≡ events.Deliver message
  pub by : message.from ≡ from
  pub says : message.what ≡ what
  pub heeded : is_heeded n.base.cfg n.base.me message ≡ true

-- the entry of the next slot is told
pub record IsTold {S : Type 0} (n : Node S) (event : Event) (s : Node S) (entry : Entry) : Type 0 where
  pub from : NodeId
  pub count : ℕ
  pub comes : Comes n event from (whats.Decided (length s.base.known) count entry)

-- a sequencer is asked for the entry of the next slot: the one that told of more, or the one whose turn it is at a tick
pub data Asks {S : Type 0} (n : Node S) (event : Event) (s : Node S) : NodeId → Type 0 where
  asks_on : (from : NodeId) (slot count : ℕ) (entry : Entry) → Comes n event from (whats.Decided slot count entry) → length s.base.known < s.base.seen
      → has_slot s.base ≡ true → Asks n event s from
  asks_at_tick : (to : NodeId) → event ≡ events.Tick → asked_by s.base ≡ Some to → has_slot s.base ≡ true → Asks n event s to

-- with an entry what every node has became this, for a reason that a kind of node has, and what was agreed before it
pub record HasLearned {S : Type 0} (Learns : Node S → Entry → Type 0) (after : Base) (before : Agreement) (entry : Entry) : Type 0 where
  pub old : Node S
  pub learns : Learns old entry
  pub base : after ≡ knowing entry old.base
  pub agrees : before ≡ agreed_by old.base

-- ---- the places of a kind

-- when it learns an entry; when it sends a message; when it shows a mark; when it stores an item, and its own part becomes another;
-- when its own part alone does; and what a restart makes
pub record Places (S : Type 0) : Type 1 where
  pub Learns : Node S → Event → Node S → Entry → Type 0
  pub Says : Node S → Event → Node S → NodeId → What → Type 0
  pub Shows : Node S → Event → Node S → Mark → Type 0
  pub Stores : Node S → Event → Node S → Item → S → Type 0
  pub Changes : Node S → Event → Node S → S → Type 0
  pub reset : Node S → Node S
  pub shown : Node S → List Mark

abbrev pub restarted : {S : Type 0} → Places S → Node S → Turn S
restarted p n = record { state = p.reset n; stable = []; sends = []; marks = p.shown n }

-- what is kept at each place; facts are told of the node of a turn, so that they stand after what is only sent or shown; it
-- comes first, since what is known at a place is told of it. Where an entry is learned the own part becomes another at once
pub record SitesAfter {S : Type 0} (p : Places S) (after : Node S → Entry → S) (W : Turn S → Type 0) (n : Node S) (event : Event) : Type 0 where
  pub starts : W (started n)
  pub restarts : event ≡ events.Restart → W (restarted p n)
  pub learns : (t : Turn S) (entry : Entry) → p.Learns n event t.state entry → W t → W (put_own (after t.state entry) (learned entry t))
  pub sees : (t : Turn S) (from : NodeId) (slot count : ℕ) (entry : Entry) → Comes n event from (whats.Decided slot count entry) → W t → W (with_seen count t)
  pub ticks : (t : Turn S) → event ≡ events.Tick → W t → W (with_tick t)
  pub asks : (t : Turn S) (to : NodeId) → Asks n event t.state to → W t → W (send to (whats.Learn (count_known t)) t)
  pub says : (t : Turn S) (to : NodeId) (what : What) → p.Says n event t.state to what → W t → W (send to what t)
  pub shows : (t : Turn S) (mark : Mark) → p.Shows n event t.state mark → W t → W (show mark t)
  pub stores : (t : Turn S) (item : Item) (own : S) → p.Stores n event t.state item own → W t → W (put_own own (store item t))
  pub changes : (t : Turn S) (own : S) → p.Changes n event t.state own → W t → W (put_own own t)

-- of a kind whose own part stays as an entry is learned: what it does then are changes of their own
abbrev pub same_own : {S : Type 0} → Node S → Entry → S
same_own s entry = s.own

abbrev pub Sites : {S : Type 0} → Places S → (Turn S → Type 0) → Node S → Event → Type 0
Sites p W n event = SitesAfter p same_own W n event

-- ---- laws that look at less

-- a turn as it is with nothing sent, at a node that was told and counted nothing
abbrev pub unsent : {S : Type 0} → Turn S → Turn S
unsent t = record { state = record { base = reset_base t.state.base; own = t.state.own }; stable = t.stable; sends = []; marks = t.marks }

-- what is kept of such a turn, at the places that can change it
pub record UnsentSites {S : Type 0} (p : Places S) (after : Node S → Entry → S) (W : Turn S → Type 0) (n : Node S) (event : Event) : Type 0 where
  pub starts : W (unsent (started n))
  pub restarts : event ≡ events.Restart → W (unsent (restarted p n))
  pub learns : (t : Turn S) (entry : Entry) → p.Learns n event t.state entry → W (unsent t) → W (unsent (put_own (after t.state entry) (learned entry t)))
  pub shows : (t : Turn S) (mark : Mark) → p.Shows n event t.state mark → W (unsent t) → W (unsent (show mark t))
  pub stores : (t : Turn S) (item : Item) (own : S) → p.Stores n event t.state item own → W (unsent t) → W (unsent (put_own own (store item t)))
  pub changes : (t : Turn S) (own : S) → p.Changes n event t.state own → W (unsent t) → W (unsent (put_own own t))

pub unsent_sites : {S : Type 0} {p : Places S} {after : Node S → Entry → S} (W : Turn S → Type 0) {n : Node S} {event : Event} → UnsentSites p after W n event
    → SitesAfter p after (λ t. W (unsent t)) n event
unsent_sites W s = record {
  starts = s.starts;
  restarts = s.restarts;
  learns = s.learns;
  sees = λ t from slot count entry why w. w;
  ticks = λ t why w. w;
  asks = λ t to why w. w;
  says = λ t to what why w. w;
  shows = s.shows;
  stores = s.stores;
  changes = s.changes;
}

-- a turn as it is with nothing sent and nothing shown
abbrev pub unshown : {S : Type 0} → Turn S → Turn S
unshown t = record (unsent t) { marks = [] }

pub record UnshownSites {S : Type 0} (p : Places S) (after : Node S → Entry → S) (W : Turn S → Type 0) (n : Node S) (event : Event) : Type 0 where
  pub starts : W (unshown (started n))
  pub restarts : event ≡ events.Restart → W (unshown (restarted p n))
  pub learns : (t : Turn S) (entry : Entry) → p.Learns n event t.state entry → W (unshown t) → W (unshown (put_own (after t.state entry) (learned entry t)))
  pub stores : (t : Turn S) (item : Item) (own : S) → p.Stores n event t.state item own → W (unshown t) → W (unshown (put_own own (store item t)))
  pub changes : (t : Turn S) (own : S) → p.Changes n event t.state own → W (unshown t) → W (unshown (put_own own t))

pub unshown_sites : {S : Type 0} {p : Places S} {after : Node S → Entry → S} (W : Turn S → Type 0) {n : Node S} {event : Event} → UnshownSites p after W n event
    → SitesAfter p after (λ t. W (unshown t)) n event
unshown_sites W s =
    unsent_sites (λ t. W (unshown t))
    (record {
      starts = s.starts;
      restarts = s.restarts;
      learns = s.learns;
      shows = λ t mark why w. w;
      stores = s.stores;
      changes = s.changes;
    })
