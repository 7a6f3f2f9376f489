-- What follows of a turn that is under way, and the rules after which it still is.
use Rattle.std.proofs.Common.{◌≡◌, ℕ, ◌<◌, ◌^◌, ◌==◌, ◌&&◌, Bool, true, false, Option, Some, None, length, refl, sym, subst, ◌∙◌, arith}
use Rattle.std.specs.Prelude.{if◌then◌else◌, nat_lt, IfSome, IsTrue}
use Rattle.std.proofs.lemmas.Bool.{ltb-true, lt-ltb, and_parts}
use Rattle.quota_table.specs.Entries.{IsValidEntry}
use Rattle.msg_wire.specs.Nodes.{is_sequencer, number_of}
use Rattle.msg_wire.specs.Heeded.{goes_between, is_heeded}
use Rattle.msg_wire.specs.Valid.{IsNodeOf, IsValidCommand, IsValidEvent}
use Rattle.msg_wire.specs.Steps.{IsValidStep}
use Rattle.node_rules.specs.Names.{NodeId, Config, Entry, Command, Event, Message, What}
use Rattle.node_rules.specs.Names.nodes
use Rattle.node_rules.specs.Names.events
use Rattle.node_rules.specs.Nodes.{Node, has_slot, with_own}
use Rattle.node_rules.specs.Turns.{Turn, step_of, started, cfg_of, own_of, put_own}
use Rattle.node_rules.specs.Rules.{tick}
use Rattle.node_rules.proofs.Lists.{on_test}
use Rattle.node_rules.proofs.Kept.{IsKept, keeping_node, kept_valid}
use Rattle.node_rules.proofs.Within.{heeded_parts}
use Rattle.seq_node.specs.States.{SlotAttempt, SequencerState}
use Rattle.seq_node.specs.Attempts.{hear_promise, attempt_stands, ballot_below, new_ballot}
use Rattle.seq_node.specs.Rules.{with_wish, idle_longer}
use Rattle.seq_node.specs.Steps.{handle, sequencer_step}
use Rattle.seq_node.specs.Sound.{MayBeValid, IsAttempt, MayBeAttempt, IsSequencer}
use Rattle.seq_node.specs.inside.UnderWay.{IsUnderWay}
use Rattle.seq_node.proofs.Places.{promise_alone, SequencerSites, sequencer_places}
use Rattle.seq_node.proofs.Lives.{kept_step}
use Rattle.seq_node.proofs.Walk.{walk_promise, walk_wish, walk_idle, walk_handle}
use Rattle.seq_node.proofs.Keeps.{IsOrderlyAs, sequencer_keeping, sequencer_keeps, begun_orderly}

-- ---- its name

number_below : (c : Config) (node : NodeId) → IsNodeOf c node → is_sequencer node ≡ true → number_of node < c.seqs
number_below c (nodes.Seq number) of kind = of
number_below c (nodes.Shard number side) of kind = absurd (cc)
number_below c (nodes.Client number) of kind = absurd (cc)
number_below c (nodes.Consumer number) of kind = absurd (cc)

pub own_number : (n : Node SequencerState) → IsSequencer n → number_of n.base.me < n.base.cfg.seqs
own_number n is = number_below n.base.cfg n.base.me is.orderly.base.me is.kind

-- ---- its attempt

-- whatever holds of each attempt that may stand
of_attempt : (P : SlotAttempt → Type 0) (replica seqs next slots : ℕ) (o : Option SlotAttempt) → MayBeAttempt replica seqs next slots o
    → ((a : SlotAttempt) → IsAttempt replica seqs next slots a → P a) → IfSome o P
of_attempt P replica seqs next slots None is each = tt
of_attempt P replica seqs next slots (Some a) is each = each a is

-- a sequencer's number is one of its replicas
pub among_replicas : (n : Node SequencerState) (replica : ℕ) → IsSequencer n → replica < n.base.cfg.seqs
    → IfSome n.own.attempt (λ (a : SlotAttempt). replica < a.attempt.n)
among_replicas n replica is low = of_attempt (λ (a : SlotAttempt). replica < a.attempt.n) _ _ _ _ n.own.attempt is.orderly.attempt (λ a at. omega (arith, at.seqs_are, low))

valid_if_some : (o : Option Entry) → MayBeValid o → IfSome o IsValidEntry
valid_if_some None valid = tt
valid_if_some (Some entry) valid = valid

pub sends_valid : (n : Node SequencerState) → IsSequencer n → IfSome n.own.attempt (λ (a : SlotAttempt). IfSome a.attempt.sending IsValidEntry)
sends_valid n is = of_attempt (λ (a : SlotAttempt). IfSome a.attempt.sending IsValidEntry) _ _ _ _ n.own.attempt is.orderly.attempt (λ a at. valid_if_some a.attempt.sending at.sending)

pub has_its_slot : (n : Node SequencerState) → IsSequencer n → IfSome n.own.attempt (λ (a : SlotAttempt). IsTrue (has_slot n.base))
has_its_slot n is =
    of_attempt (λ (a : SlotAttempt). IsTrue (has_slot n.base)) _ _ _ _ n.own.attempt is.orderly.attempt (λ a at. lt-ltb _ _ (omega (arith, at.slot, at.slot_limit)))

-- ---- it goes on, by the walk of an event that the rules ask for

abbrev Named : NodeId → Type 0
Named me = IsTrue (is_sequencer me)

named : (n : Node SequencerState) → IsSequencer n → IsOrderlyAs Named n
named n is = (is.orderly, is.kind)

sequencer : (n : Node SequencerState) → IsOrderlyAs Named n → IsSequencer n
sequencer n is = record { orderly = is.0; kind = is.1 }

sites : (n : Node SequencerState) (event : Event) → IsSequencer n → IsValidEvent event → SequencerSites (λ t. IsOrderlyAs Named t.state) n event
sites n event is valid = keeping_node sequencer_places (sequencer_keeping Named) n event (sequencer_keeps n event valid Named) valid (named n is)

pub goes_promise : (t : Turn SequencerState) (slot ballot : ℕ) → IsUnderWay t → (cfg_of t).seqs ≡ 1 → IsUnderWay (hear_promise 0 slot ballot None t)
goes_promise t slot ballot is one = sequencer _ (walk_promise (sites t.state events.Tick is tt) 0 slot ballot None t (promise_alone one) (named t.state is))

pub goes_wish : (t : Turn SequencerState) (command : Command) → IsUnderWay t → IsValidCommand command → IsUnderWay (put_own (with_wish command (own_of t)) t)
goes_wish t command is good = sequencer _ (walk_wish (sites t.state (events.Command command) is good) command t refl (named t.state is))

pub goes_idle : (t : Turn SequencerState) → IsUnderWay t → IsUnderWay (idle_longer (tick t))
goes_idle t is = sequencer _ (walk_idle (sites t.state events.Tick is tt) t refl (named t.state is))

pub goes_event : (n : Node SequencerState) (event : Event) → IsSequencer n → IsValidEvent event → IsUnderWay (handle event (started n))
goes_event n event is valid = sequencer _ (walk_handle (sites n event is valid))

-- a whole step leaves a sequencer, and what it gives is valid
step_keeps : (n : Node SequencerState) (event : Event) → IsSequencer n → IsValidEvent event → IsKept (sequencer_keeping Named) n (sequencer_step n event)
step_keeps n event is valid = kept_step Named n event (named n is) valid

pub goes_step : (n : Node SequencerState) (event : Event) → IsSequencer n → IsValidEvent event → IsUnderWay (sequencer_step n event)
goes_step n event is valid = sequencer _ (step_keeps n event is valid).is

pub step_valid : (n : Node SequencerState) (t : Turn SequencerState) (event : Event) → IsSequencer n → IsValidEvent event → t ≡ sequencer_step n event
    → IsValidStep (step_of t)
step_valid n t event is valid e = kept_valid (sequencer_keeping Named) n t (subst (IsKept (sequencer_keeping Named) n) (sym e) (step_keeps n event is valid))

-- ---- beginning

below_is : (b ballot : ℕ) → ballot_below b ≡ Some ballot → (b ≡ ballot) × (b < 2 ^ 31)
below_is b ballot e =
    on_test (λ (o : Option ℕ). o ≡ Some ballot → (b ≡ ballot) × (b < 2 ^ 31)) (nat_lt b (2 ^ 31)) (Some b) None
    (λ small here. (cc, ltb-true b (2 ^ 31) small)) (λ _ none. absurd (cc)) e

pub goes_begun : (n : Node SequencerState) (ballot : ℕ) (value : Entry) → IsSequencer n → has_slot n.base ≡ true → IsValidEntry value
    → ballot_below (new_ballot (length n.base.known) (started n)) ≡ Some ballot
    → IsSequencer (with_own (attempt_stands (length n.base.known) ballot value (started n)) n)
goes_begun n ballot value is slot good below =
    let small = below_is (new_ballot (length n.base.known) (started n)) ballot below in
    record { orderly = begun_orderly (ballot == 0) ballot value n is.orderly slot (omega (arith, small.0, small.1)) good; kind = is.kind }

-- ---- a message that is heeded

-- a promise or an acceptance comes from one of the sequencers
pub number_from : (c : Config) (me : NodeId) (m : Message) (what : What) → is_heeded c me m ≡ true → m.what ≡ what
    → goes_between what m.from m.to ≡ (is_sequencer m.from && is_sequencer m.to) → number_of m.from < c.seqs
number_from c me m what heeded said between =
    let parts = heeded_parts c me m heeded in
    let goes = sym between ∙ subst (λ (w : What). goes_between w m.from m.to ≡ true) said parts.1 in
    number_below c m.from parts.0 (and_parts (is_sequencer m.from) (is_sequencer m.to) goes).0
