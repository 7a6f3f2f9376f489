-- A sequencer names nodes of its cluster alone: the entries and commands that it has, and all that it sends.
use Rattle.std.proofs.Common.{◌≡◌, ℕ, ◌+◌, ◌==◌, ◌<◌, nat_lt, List, [], ◌∷◌, length, drop, set, Option, Some, None, refl, subst}
use Rattle.std.specs.Prelude.{slice_index}
use Rattle.std.specs.List.{AllByRecursion, slice_get}
use Rattle.std.specs.Option.{option_map}
use Rattle.fix_ante.specs.declared.spots.Spot.{Spot}
use Rattle.lag_fix.specs.declared.wanted.Wanted.{Wanted}
use Rattle.fix_ante.specs.Windows.{round_end}
use Rattle.lag_fix.specs.Lags.{lagging_of}
use Rattle.cut_core.specs.Agreements.{Agreement}
use Rattle.majority.specs.Acceptors.{AcceptorState, fresh_acceptor}
use Rattle.majority.specs.Proposers.{Attempt, value_of_report, with_heard}
use Rattle.msg_wire.specs.Valid.{IsValidConfig, IsNodeOf}
use Rattle.node_rules.specs.Names.{NodeId, Config, Entry, Command, Item, What, Event}
use Rattle.node_rules.specs.Names.nodes
use Rattle.node_rules.specs.Names.sides
use Rattle.node_rules.specs.Names.commands
use Rattle.node_rules.specs.Nodes.{Node, agreed_by}
use Rattle.node_rules.proofs.Lists.{on_test, all_push, all_at, all_or}
use Rattle.node_rules.proofs.Places.{Comes}
use Rattle.node_rules.proofs.Within.{HasNodes, MayHaveNodes, ReportHasNodes, CommandHasNodes, SaysWithin, TakesWithin, StaysWithin, IsWithin, ComesWithin, comes_within, KeepsWithin, staying_after}
use Rattle.node_rules.proofs.WithinAgreed.{SpotsHaveNodes, rows_of_spots, AgreesWithin, agreed_within}
use Rattle.seq_node.specs.States.{SlotAttempt, SequencerState, acceptor_at, reaching, with_report, with_attempt, with_idle}
use Rattle.seq_node.specs.Values.{entry_of, wished_value, renewal_is_due, renewal, cut_is_due, cut, is_touched, value_for}
use Rattle.seq_node.specs.Learning.{attempt_over}
use Rattle.seq_node.specs.Steps.{sequencer_step}
use Rattle.seq_node.proofs.Ballots.{on_greater}
use Rattle.seq_node.proofs.Proposals.{on_first}
use Rattle.seq_node.proofs.Orderly.{all_reaching}
use Rattle.seq_node.proofs.Others.{other_sequencers_within, other_nodes_within}
use Rattle.seq_node.proofs.Places.{AsksFor, by_learn, by_prepare, by_accept, Promising, promise_comes, promise_alone, Learns, told, chosen, Counts, Waits, is_late, is_lower, is_waiting, Begins, Says, tells, announces, promises, accepts, prepares, proposes, fills, Stores, promised, accepted, begins_at_once, begins, sends, Changes, waits, hears, reports, wishes, idles, over, sequencer_places, others_of, all_others_of}
use Rattle.seq_node.proofs.Walk.{sequencer_walk}

-- ---- what a sequencer has

abbrev pub AcceptorHasNodes : Config → AcceptorState Entry → Type 0
AcceptorHasNodes c acceptor = ReportHasNodes c acceptor.accepted

pub record AttemptHasNodes (c : Config) (attempt : Attempt Entry) : Type 0 where
  pub wish : HasNodes c attempt.wish
  pub reported : ReportHasNodes c attempt.reported
  pub sending : MayHaveNodes c attempt.sending

abbrev pub MayHaveAttempt : Config → Option SlotAttempt → Type 0
MayHaveAttempt c None = Unit {0}
MayHaveAttempt c (Some a) = AttemptHasNodes c a.attempt

-- all entries that it may send name shards that have nodes
abbrev pub HasEntries : Config → NodeId → SequencerState → Type 0
HasEntries c me own = AllByRecursion (AcceptorHasNodes c) own.acceptors × AllByRecursion (CommandHasNodes c) own.wishes × MayHaveAttempt c own.attempt

abbrev pub IsIn : Config → Node SequencerState → Type 0
IsIn c s = IsWithin c SequencerState (HasEntries c) s

acceptor_has : (c : Config) (own : SequencerState) (slot : ℕ) → AllByRecursion (AcceptorHasNodes c) own.acceptors → AcceptorHasNodes c (acceptor_at own slot)
acceptor_has c own slot all = all_or (AcceptorHasNodes c) own.acceptors slot fresh_acceptor all tt

acceptors_with : (c : Config) (own : SequencerState) (slot : ℕ) (acceptor : AcceptorState Entry) → AllByRecursion (AcceptorHasNodes c) own.acceptors
    → AcceptorHasNodes c acceptor
    → AllByRecursion (AcceptorHasNodes c) (set (reaching (slot + 1) own.acceptors) slot acceptor)
acceptors_with c own slot acceptor all here = all_reaching (AcceptorHasNodes c) own.acceptors slot acceptor tt all here

attempt_has : (c : Config) (s : Node SequencerState) (a : SlotAttempt) → IsIn c s → s.own.attempt ≡ Some a → AttemptHasNodes c a.attempt
attempt_has c s a w stands = subst (MayHaveAttempt c) stands w.own.2

-- ---- what an attempt makes of reports

reported_value : (c : Config) (report : Option (ℕ × Entry)) (wish : Entry) → ReportHasNodes c report → HasNodes c wish
    → HasNodes c (value_of_report report wish)
reported_value c None wish reported has = has
reported_value c (Some (ballot, entry)) wish reported has = reported

heard_has : (c : Config) (replica : ℕ) (report : Option (ℕ × Entry)) (attempt : Attempt Entry) → ReportHasNodes c report → AttemptHasNodes c attempt
    → AttemptHasNodes c (with_heard replica report attempt)
heard_has c replica report attempt reported has =
    record { wish = has.wish; reported = on_greater (ReportHasNodes c) attempt.reported report has.reported reported; sending = has.sending }

-- ---- what it wishes, and what an entry makes of that

command_has : (c : Config) (window : ℕ) (command : Option Command) → ((x : Command) → command ≡ Some x → CommandHasNodes c x)
    → MayHaveNodes c (option_map (entry_of window) command)
command_has c window None has = tt
command_has c window (Some (commands.Table rounds rows)) has = has (commands.Table rounds rows) refl
command_has c window (Some (commands.Remove shard)) has = tt

value_has : (c : Config) (a : Agreement) (s : SequencerState) → AgreesWithin c a → AllByRecursion (CommandHasNodes c) s.wishes → MayHaveNodes c (value_for a s)
value_has c a s agrees has =
    on_first (MayHaveNodes c) (wished_value a s) _
    (command_has c a.current.number (slice_get s.wishes 0) (λ x e. all_at (CommandHasNodes c) s.wishes 0 x has e))
    (on_first (MayHaveNodes c) (renewal a s) _ (on_test (MayHaveNodes c) (renewal_is_due a s) _ None (λ _. rows_of_spots c a.current.spots agrees.current) (λ _. tt))
    (on_first (MayHaveNodes c) (cut a s) _ (on_test (MayHaveNodes c) (cut_is_due a s) _ None (λ _. tt) (λ _. tt))
    (on_test (MayHaveNodes c) (is_touched (acceptor_at s a.slots)) _ None (λ _. tt) (λ _. tt))))

without_first : (c : Config) (wished : List Command) → AllByRecursion (CommandHasNodes c) wished → AllByRecursion (CommandHasNodes c) (drop 1 wished)
without_first c [] all = tt
without_first c (command ∷ wished) all = all.1

over_has : (c : Config) (me : NodeId) (attempt : Option SlotAttempt) (slot : ℕ) (entry : Entry) (own : SequencerState) → HasEntries c me own
    → HasEntries c me (attempt_over attempt slot entry own)
over_has c me None slot entry own has = has
over_has c me (Some a) slot entry own has =
    on_test (HasEntries c me) (a.slot == slot) _ own
    (λ _. on_test (HasEntries c me) _ _ (with_attempt None own) (λ _. (has.0, without_first c own.wishes has.1, tt)) (λ _. (has.0, has.1, tt))) (λ _. has)

report_has : (c : Config) (me from : NodeId) (len : ℕ) (own : SequencerState) → HasEntries c me own → HasEntries c me (with_report from len own)
report_has c me (nodes.Shard shard sides.Primary) len own has = has
report_has c me (nodes.Shard shard sides.Backup) len own has = has
report_has c me _ len own has = has

-- ---- rows that lag

lagging_within : (c : Config) (spots : List Spot) (round : ℕ) (lengths : List ℕ) → SpotsHaveNodes c spots
    → AllByRecursion (λ (w : Wanted). w.shard < c.shards) (lagging_of spots round lengths)
lagging_within c [] round lengths all = tt
lagging_within c (s ∷ spots) round lengths all =
    on_test (AllByRecursion (λ (w : Wanted). w.shard < c.shards)) (nat_lt (slice_index lengths s.shard) (round_end s round)) _ _
    (λ _. (all.0, lagging_within c spots round lengths all.1)) (λ _. lagging_within c spots round lengths all.1)

-- ---- the places

module _ (c : Config) (n : Node SequencerState) (event : Event) (valid : IsValidConfig c) (takes : TakesWithin c event) (start : IsIn c n) where
  come : (from : NodeId) (what : What) → Comes n event from what → ComesWithin c from what
  come from what comes = comes_within n event from what comes start takes

  asker : (from : NodeId) (slot : ℕ) → AsksFor n event from slot → IsNodeOf c from
  asker from slot (by_learn comes) = (come from _ comes).from_within
  asker from slot (by_prepare ballot comes) = (come from _ comes).from_within
  asker from slot (by_accept ballot entry comes) = (come from _ comes).from_within

  promise_has : (s : Node SequencerState) (slot ballot replica : ℕ) (report : Option (ℕ × Entry)) → Promising n event s slot ballot replica report
      → ReportHasNodes c report
  promise_has s slot ballot _ report (promise_comes from _ comes) = (come from _ comes).says
  promise_has s slot ballot _ _ (promise_alone one) = tt

  report_of : (s : Node SequencerState) (a : SlotAttempt) (replica : ℕ) (report : Option (ℕ × Entry)) → Counts n event s a replica report
      → ReportHasNodes c report
  report_of s a replica report counts = promise_has s a.slot a.attempt.ballot replica report counts.promise

  learns_within : (s : Node SequencerState) (entry : Entry) → Learns n event s entry → IsIn c s → HasNodes c entry
  learns_within s entry (told is_told) w = (come is_told.from _ is_told.comes).says
  learns_within s entry (chosen a stands sent most) w = subst (MayHaveNodes c) sent (attempt_has c s a w stands).sending

  other_sequencer : (s : Node SequencerState) (i : ℕ) (to : NodeId) → IsIn c s → slice_get (others_of s) i ≡ Some to → IsNodeOf c to
  other_sequencer s i to w at = all_at (IsNodeOf c) (others_of s) i to (other_sequencers_within c s.base.cfg s.base.me w.cfg) at

  says_within : (s : Node SequencerState) (to : NodeId) (what : What) → Says n event s to what → IsIn c s → IsNodeOf c to × SaysWithin c what
  says_within s to _ (tells _ slot entry why known here) w = (asker to slot why, all_at (HasNodes c) s.base.known slot entry w.known here)
  says_within s to _ (announces _ i slot entry at more here) w =
      (all_at (IsNodeOf c) (all_others_of s) i to (other_nodes_within c s.base.cfg s.base.me w.cfg) at, all_at (HasNodes c) s.base.known slot entry w.known here)
  says_within s to _ (promises _ slot ballot report comes unknown here) w =
      ((come to _ comes).from_within, subst (AcceptorHasNodes c) here (acceptor_has c s.own slot w.own.0))
  says_within s to _ (accepts _ slot ballot entry comes unknown here) w = ((come to _ comes).from_within, tt)
  says_within s to _ (prepares _ i a at stands next none here) w = (other_sequencer s i to w at, tt)
  says_within s to _ (proposes _ i a value at stands sent here) w =
      (other_sequencer s i to w at, subst (MayHaveNodes c) sent (attempt_has c s a w stands).sending)
  says_within s _ _ (fills i x e need at) w =
      let agrees = agreed_within s valid w in
      (all_at (λ (y : Wanted). y.shard < c.shards) _ i x (lagging_within c (agreed_by s.base).current.spots (agreed_by s.base).rounds _ agrees.current) at, tt)

  -- what a new attempt proposes
  proposed : (s : Node SequencerState) (ballot : ℕ) (value : Entry) → Begins s ballot value → IsIn c s → HasNodes c value
  proposed s ballot value starts w = subst (MayHaveNodes c) starts.value_is (value_has c (agreed_by s.base) s.own (agreed_within s valid w) w.own.1)

  stores_within : (s : Node SequencerState) (item : Item) (own : SequencerState) → Stores n event s item own → IsIn c s → HasEntries c s.base.me own
  stores_within s _ _ (promised from slot ballot comes opens) w = (acceptors_with c s.own slot _ w.own.0 (acceptor_has c s.own slot w.own.0), w.own.1, w.own.2)
  stores_within s _ _ (accepted from slot ballot entry comes opens) w = (acceptors_with c s.own slot _ w.own.0 (come from _ comes).says, w.own.1, w.own.2)
  stores_within s _ _ (begins_at_once value starts) w =
      let has = proposed s 0 value starts w in
      (acceptors_with c s.own (length s.base.known) _ w.own.0 has, w.own.1, record { wish = has; reported = tt; sending = has })
  stores_within s _ _ (begins ballot value starts above) w = (
    acceptors_with c s.own (length s.base.known) _ w.own.0 (acceptor_has c s.own (length s.base.known) w.own.0),
    w.own.1,
    record { wish = proposed s ballot value starts w; reported = tt; sending = tt },
  )
  stores_within s _ _ (sends a replica report value counts sent) w =
      let reported = report_of s a replica report counts in
      let heard = heard_has c replica report a.attempt reported (attempt_has c s a w counts.stands) in
      let has : HasNodes c value =
      subst (HasNodes c) sent.value_is
      (reported_value c _ a.attempt.wish (on_greater (ReportHasNodes c) (acceptor_at s.own a.slot).accepted _ (acceptor_has c s.own a.slot w.own.0) heard.reported) heard.wish) in
      (acceptors_with c s.own a.slot _ w.own.0 has, w.own.1, record { wish = heard.wish; reported = heard.reported; sending = has })

  waits_within : (s : Node SequencerState) (a : SlotAttempt) (replica : ℕ) (report : Option (ℕ × Entry)) (attempt : Attempt Entry)
      → Counts n event s a replica report
      → Waits s a replica report attempt → IsIn c s → AttemptHasNodes c attempt
  waits_within s a replica report _ counts (is_late late) w = attempt_has c s a w counts.stands
  waits_within s a replica report _ counts (is_lower greater e) w = attempt_has c s a w counts.stands
  waits_within s a replica report _ counts (is_waiting early few) w =
      heard_has c replica report a.attempt (report_of s a replica report counts) (attempt_has c s a w counts.stands)

  changes_within : (s : Node SequencerState) (own : SequencerState) → Changes n event s own → IsIn c s → HasEntries c s.base.me own
  changes_within s _ (waits a replica report attempt counts why) w =
      (acceptors_with c s.own a.slot _ w.own.0 (acceptor_has c s.own a.slot w.own.0), w.own.1, waits_within s a replica report attempt counts why w)
  changes_within s _ (hears a replica value stands comes sent) w =
      let has = attempt_has c s a w stands in
      (w.own.0, w.own.1, record { wish = has.wish; reported = has.reported; sending = has.sending })
  changes_within s _ (reports from len comes) w = report_has c s.base.me from len s.own w.own
  changes_within s _ (wishes command e room) w = (w.own.0, all_push (CommandHasNodes c) s.own.wishes command w.own.1 (subst (TakesWithin c) e takes), w.own.2)
  changes_within s _ (idles e) w = w.own

  within_places : KeepsWithin sequencer_places c (HasEntries c) n event
  within_places = record {
    resets = λ w. record { cfg = w.cfg; me = w.me; known = w.known; own = (w.own.0, tt, tt) };
    learns = learns_within;
    says = says_within;
    stores = stores_within;
    changes = changes_within;
  }

pub sequencer_within : (c : Config) (n : Node SequencerState) (event : Event) → IsValidConfig c → TakesWithin c event → IsIn c n
    → StaysWithin c SequencerState (HasEntries c) (sequencer_step n event)
sequencer_within c n event valid takes start =
    sequencer_walk
    (staying_after sequencer_places c (HasEntries c) n event (within_places c n event valid takes start) over
    (λ s entry w. over_has c s.base.me s.own.attempt (agreed_by s.base).slots entry (with_idle 0 s.own) w.own) valid start takes)
