-- The places of a sequencer's table at which it learns, sends, stores or changes, and what is known there.
use Rattle.std.specs.Prelude.{◌≡◌, ℕ, ◌+◌, ◌^◌, ◌==◌, Bool, true, false, nat_lt, min, is_some, List, [], ◌∷◌, ◌++◌, length, slice_get, Option, Some, None, if◌then◌else◌}
use Rattle.lag_fix.specs.declared.wanted.Wanted.{Wanted}
use Rattle.majority.specs.Ballots.{greater_promise, is_majority}
use Rattle.majority.specs.Acceptors.{with_promise, with_vote}
use Rattle.majority.specs.Proposers.{Attempt, value_to_send, with_heard, with_sending, with_acceptance}
use Rattle.msg_wire.specs.Nodes.{number_of, sequencers_of, nodes_of, without_node}
use Rattle.node_rules.specs.Names.{NodeId, Entry, Command, Item, What, Event}
use Rattle.node_rules.specs.Names.nodes
use Rattle.node_rules.specs.Names.sides
use Rattle.node_rules.specs.Names.items
use Rattle.node_rules.specs.Names.whats
use Rattle.node_rules.specs.Names.events
use Rattle.node_rules.specs.Nodes.{Node, agreed_by, has_slot}
use Rattle.node_rules.specs.Turns.{Turn, started}
use Rattle.node_rules.proofs.Places.{Comes, IsTold, Places, SitesAfter}
use Rattle.seq_node.specs.States.{SlotAttempt, SequencerState, acceptor_at, with_acceptor, with_report, with_attempt, with_idle}
use Rattle.seq_node.specs.Values.{lagging_rows, has_uncovered, wished_value, value_for}
use Rattle.seq_node.specs.Learning.{attempt_over}
use Rattle.seq_node.specs.Attempts.{goes_on, new_ballot}
use Rattle.seq_node.specs.Restart.{reset_of}

-- ---- what comes

-- the slot that is spoken of, of a message that a known slot's entry answers
pub data AsksFor (n : Node SequencerState) (event : Event) (from : NodeId) (slot : ℕ) : Type 0 where
  by_learn : Comes n event from (whats.Learn slot) → AsksFor n event from slot
  by_prepare : (ballot : ℕ) → Comes n event from (whats.Prepare slot ballot) → AsksFor n event from slot
  by_accept : (ballot : ℕ) (entry : Entry) → Comes n event from (whats.Accept slot ballot entry) → AsksFor n event from slot

-- whose promise is counted at a slot and a ballot, and what it reports: one that comes, or that of a sequencer that is alone
pub data Promising (n : Node SequencerState) (event : Event) (s : Node SequencerState) (slot ballot : ℕ) : ℕ → Option (ℕ × Entry) → Type 0 where
  promise_comes : (from : NodeId) (report : Option (ℕ × Entry)) → Comes n event from (whats.Promise slot ballot report)
      → Promising n event s slot ballot (number_of from) report
  promise_alone : s.base.cfg.seqs ≡ 1 → Promising n event s slot ballot 0 None

-- whose acceptance is counted
pub data Accepting (n : Node SequencerState) (event : Event) (s : Node SequencerState) (slot ballot : ℕ) : ℕ → Type 0 where
  acceptance_comes : (from : NodeId) → Comes n event from (whats.Accepted slot ballot) → Accepting n event s slot ballot (number_of from)
  acceptance_alone : s.base.cfg.seqs ≡ 1 → Accepting n event s slot ballot 0

-- ---- what is known where a part changes

-- an entry is learned: it comes for the slot that is next, or a majority has accepted it
pub data Learns (n : Node SequencerState) (event : Event) (s : Node SequencerState) (entry : Entry) : Type 0 where
  told : IsTold n event s entry → Learns n event s entry
  chosen : (a : SlotAttempt) → s.own.attempt ≡ Some a → a.attempt.sending ≡ Some entry → is_majority a.attempt.n a.attempt.acceptances ≡ true
      → Learns n event s entry

-- a slot that isn't known, and no promise of a greater ballot there
pub record IsOpen (s : Node SequencerState) (slot ballot : ℕ) : Type 0 where
  pub unknown : nat_lt slot (length s.base.known) ≡ false
  pub none_greater : greater_promise (acceptor_at s.own slot).promised ballot ≡ None

-- an attempt with this ballot begins at the next slot, with this value
pub record Begins (s : Node SequencerState) (ballot : ℕ) (value : Entry) : Type 0 where
  pub slot : has_slot s.base ≡ true
  pub value_is : value_for (agreed_by s.base) s.own ≡ Some value
  pub ballot_is : ballot ≡ new_ballot (length s.base.known) (started s)
  pub low : nat_lt ballot (2 ^ 31) ≡ true

-- a promise is counted: by an attempt that stands, and at its slot and ballot
pub record Counts (n : Node SequencerState) (event : Event) (s : Node SequencerState) (a : SlotAttempt) (replica : ℕ) (report : Option (ℕ × Entry)) : Type 0 where
  pub stands : s.own.attempt ≡ Some a
  pub promise : Promising n event s a.slot a.attempt.ballot replica report

-- what the attempt becomes by a promise after which nothing is sent
pub data Waits (s : Node SequencerState) (a : SlotAttempt) (replica : ℕ) (report : Option (ℕ × Entry)) : Attempt Entry → Type 0 where
  is_late : is_some a.attempt.sending ≡ true → Waits s a replica report a.attempt
  is_lower : (promised : ℕ) → greater_promise (acceptor_at s.own a.slot).promised a.attempt.ballot ≡ Some promised → Waits s a replica report a.attempt
  is_waiting : is_some a.attempt.sending ≡ false → is_majority a.attempt.n (with_heard replica report a.attempt).promises ≡ false
      → Waits s a replica report (with_heard replica report a.attempt)

-- a majority has promised, so that a value is sent
pub record Sends (s : Node SequencerState) (a : SlotAttempt) (replica : ℕ) (report : Option (ℕ × Entry)) (value : Entry) : Type 0 where
  pub not_yet : is_some a.attempt.sending ≡ false
  pub none_greater : greater_promise (acceptor_at s.own a.slot).promised a.attempt.ballot ≡ None
  pub majority : is_majority a.attempt.n (with_heard replica report a.attempt).promises ≡ true
  pub value_is : value_to_send (acceptor_at s.own a.slot) (with_heard replica report a.attempt) ≡ value

-- ---- what is sent

abbrev pub others_of : Node SequencerState → List NodeId
others_of s = without_node s.base.me (sequencers_of s.base.cfg)

abbrev pub all_others_of : Node SequencerState → List NodeId
all_others_of s = without_node s.base.me (nodes_of s.base.cfg)

pub data Says (n : Node SequencerState) (event : Event) (s : Node SequencerState) : NodeId → What → Type 0 where
  tells : (to : NodeId) (slot : ℕ) (entry : Entry) → AsksFor n event to slot → nat_lt slot (length s.base.known) ≡ true
      → slice_get s.base.known slot ≡ Some entry
      → Says n event s to (whats.Decided slot (length s.base.known) entry)
  announces : (to : NodeId) (i slot : ℕ) (entry : Entry) → slice_get (all_others_of s) i ≡ Some to → length s.base.known ≡ slot + 1
      → slice_get s.base.known slot ≡ Some entry
      → Says n event s to (whats.Decided slot (slot + 1) entry)
  promises : (to : NodeId) (slot ballot : ℕ) (report : Option (ℕ × Entry)) → Comes n event to (whats.Prepare slot ballot)
      → nat_lt slot (length s.base.known) ≡ false
      → acceptor_at s.own slot ≡ record { promised = Some ballot; accepted = report } → Says n event s to (whats.Promise slot ballot report)
  accepts : (to : NodeId) (slot ballot : ℕ) (entry : Entry) → Comes n event to (whats.Accept slot ballot entry) → nat_lt slot (length s.base.known) ≡ false
      → acceptor_at s.own slot ≡ record { promised = Some ballot; accepted = Some (ballot, entry) } → Says n event s to (whats.Accepted slot ballot)
  prepares : (to : NodeId) (i : ℕ) (a : SlotAttempt) → slice_get (others_of s) i ≡ Some to → s.own.attempt ≡ Some a → a.slot ≡ length s.base.known
      → a.attempt.sending ≡ None
      → (acceptor_at s.own a.slot).promised ≡ Some a.attempt.ballot → Says n event s to (whats.Prepare a.slot a.attempt.ballot)
  proposes : (to : NodeId) (i : ℕ) (a : SlotAttempt) (value : Entry) → slice_get (others_of s) i ≡ Some to → s.own.attempt ≡ Some a
      → a.attempt.sending ≡ Some value
      → acceptor_at s.own a.slot ≡ record { promised = Some a.attempt.ballot; accepted = Some (a.attempt.ballot, value) }
      → Says n event s to (whats.Accept a.slot a.attempt.ballot value)
  fills : (i : ℕ) (w : Wanted) → event ≡ events.Tick → has_uncovered (agreed_by s.base) s.own ≡ true
      → slice_get (lagging_rows (agreed_by s.base) s.own) i ≡ Some w
      → Says n event s (nodes.Shard w.shard sides.Primary) (whats.Fill w.len)

-- ---- what is stored, and what changes with it

-- the own part as a new attempt begins: it sends its value at once, or else it asks for promises
abbrev pub begun : Bool → ℕ → Entry → Node SequencerState → SequencerState
begun at_once ballot value s =
    with_idle 0
    (with_attempt
    (Some (record {
      slot = length s.base.known;
      attempt = record {
        replica = number_of s.base.me;
        n = s.base.cfg.seqs;
        ballot = ballot;
        wish = value;
        promises = number_of s.base.me ∷ [];
        reported = None;
        sending = if at_once then Some value else None;
        acceptances = if at_once then number_of s.base.me ∷ [] else [];
      };
      wished = wished_value (agreed_by s.base) s.own;
    }))
    (with_acceptor (length s.base.known)
    (if at_once then with_vote ballot value (acceptor_at s.own (length s.base.known)) else with_promise ballot (acceptor_at s.own (length s.base.known))) s.own))

-- the own part as the attempt begins to send a value
abbrev pub sending : SlotAttempt → ℕ → Option (ℕ × Entry) → Entry → SequencerState → SequencerState
sending a replica report value s =
    goes_on a (with_sending value (with_heard replica report a.attempt)) (with_vote a.attempt.ballot value (acceptor_at s a.slot)) s

-- a promise or an acceptance of another's ballot, a new attempt, the value of an attempt
pub data Stores (n : Node SequencerState) (event : Event) (s : Node SequencerState) : Item → SequencerState → Type 0 where
  promised : (from : NodeId) (slot ballot : ℕ) → Comes n event from (whats.Prepare slot ballot) → IsOpen s slot ballot
      → Stores n event s (items.Promised slot ballot) (with_acceptor slot (with_promise ballot (acceptor_at s.own slot)) s.own)
  accepted : (from : NodeId) (slot ballot : ℕ) (entry : Entry) → Comes n event from (whats.Accept slot ballot entry) → IsOpen s slot ballot
      → Stores n event s (items.Accepted slot ballot entry) (with_acceptor slot (with_vote ballot entry (acceptor_at s.own slot)) s.own)
  begins_at_once : (value : Entry) → Begins s 0 value → Stores n event s (items.Accepted (length s.base.known) 0 value) (begun true 0 value s)
  begins : (ballot : ℕ) (value : Entry) → Begins s ballot value → (ballot == 0) ≡ false
      → Stores n event s (items.Promised (length s.base.known) ballot) (begun false ballot value s)
  sends : (a : SlotAttempt) (replica : ℕ) (report : Option (ℕ × Entry)) (value : Entry) → Counts n event s a replica report → Sends s a replica report value
      → Stores n event s (items.Accepted a.slot a.attempt.ballot value) (sending a replica report value s.own)

-- an attempt hears a promise or an acceptance; a report, a wish, an idle tick
pub data Changes (n : Node SequencerState) (event : Event) (s : Node SequencerState) : SequencerState → Type 0 where
  waits : (a : SlotAttempt) (replica : ℕ) (report : Option (ℕ × Entry)) (attempt : Attempt Entry) → Counts n event s a replica report
      → Waits s a replica report attempt
      → Changes n event s (goes_on a attempt (acceptor_at s.own a.slot) s.own)
  hears : (a : SlotAttempt) (replica : ℕ) (value : Entry) → s.own.attempt ≡ Some a → Accepting n event s a.slot a.attempt.ballot replica
      → a.attempt.sending ≡ Some value
      → Changes n event s (with_attempt (Some (record a { attempt = with_acceptance replica a.attempt })) s.own)
  reports : (from : NodeId) (len : ℕ) → Comes n event from (whats.Report len) → Changes n event s (with_report from len s.own)
  wishes : (command : Command) → event ≡ events.Command command → nat_lt (length s.own.wishes) 16 ≡ true
      → Changes n event s (record (s.own) { wishes = s.own.wishes ++ command ∷ [] })
  idles : event ≡ events.Tick → Changes n event s (with_idle (min (s.own.idle + 1) 255) s.own)

-- the own part after a learned entry: an attempt for its slot is over at once, as what holds of attempts does not hold in between
abbrev pub over : Node SequencerState → Entry → SequencerState
over s entry = attempt_over s.own.attempt (agreed_by s.base).slots entry (with_idle 0 s.own)

abbrev pub sequencer_places : Places SequencerState
sequencer_places =
    record { Learns = Learns; Says = Says; Shows = λ n event s mark. ⊥; Stores = Stores; Changes = Changes; reset = reset_of; shown = λ n. [] }

abbrev pub SequencerSites : (Turn SequencerState → Type 0) → Node SequencerState → Event → Type 0
SequencerSites W n event = SitesAfter sequencer_places over W n event
