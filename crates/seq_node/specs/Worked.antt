-- Worked steps of sequencers.
use Rattle.std.specs.Prelude.{◌≡◌, [], ◌∷◌, Some, None}
use Rattle.node_rules.specs.Names.{Entry, Command}
use Rattle.node_rules.specs.Names.entries
use Rattle.node_rules.specs.Names.commands
use Rattle.node_rules.specs.Names.events
use Rattle.node_rules.specs.Names.items
use Rattle.node_rules.specs.Names.whats
use Rattle.node_rules.specs.Turns.{Turn, step_of}
use Rattle.node_rules.specs.Examples.{single, pair, trio, two_rows, q0, q1, q2, s0p, s0b, s1p, s1b, c0, k0, comes, sent, step, nothing}
use Rattle.seq_node.specs.States.{SequencerState, acceptor_at}
use Rattle.seq_node.specs.Steps.{sequencer_step}
use Rattle.seq_node.specs.Restart.{fresh_node, restart_of}

-- ---- one sequencer, by which all is decided at once

-- a record is at the primary, then at the backup too
abbrev at_primary : Turn SequencerState
at_primary = sequencer_step (fresh_node single q0) (comes s0p q0 (whats.Report 1))

abbrev at_both : Turn SequencerState
at_both = sequencer_step at_primary.state (comes s0b q0 (whats.Report 1))

-- half of the window's rounds are covered or next, so its table is agreed once more
abbrev same_table : Entry
same_table = entries.Table 0 2 (record { shard = 0; quota = 1 } ∷ [])

abbrev ticked : Turn SequencerState
ticked = sequencer_step at_both.state events.Tick

abbrev asked : Turn SequencerState
asked = sequencer_step ticked.state (comes c0 q0 (whats.Learn 1))

-- a record is at the first of two shards alone: the other is to fill its round up
abbrev uneven : Turn SequencerState
uneven = sequencer_step (sequencer_step (fresh_node pair q0) (comes s0p q0 (whats.Report 1))).state (comes s0b q0 (whats.Report 1))

-- ---- three sequencers

-- sequencer 0 is told to grant a table, and sends it at ballot 0
abbrev wanted_table : Command
wanted_table = commands.Table 2 two_rows

abbrev table : Entry
table = entries.Table 0 2 two_rows

abbrev first_begins : Turn SequencerState
first_begins = sequencer_step (fresh_node trio q0) (events.Command wanted_table)

-- sequencer 1 is told to remove a shard, and asks for promises of ballot 1
abbrev second_begins : Turn SequencerState
second_begins = sequencer_step (fresh_node trio q1) (events.Command (commands.Remove 0))

-- sequencer 0 promises, and tells what it has accepted
abbrev first_promises : Turn SequencerState
first_promises = sequencer_step first_begins.state (comes q1 q0 (whats.Prepare 0 1))

-- so sequencer 1 sends the table
abbrev second_sends : Turn SequencerState
second_sends = sequencer_step second_begins.state (comes q0 q1 (whats.Promise 0 1 (Some (0, table))))

-- an acceptance at the older ballot comes too late
abbrev late : Turn SequencerState
late = sequencer_step second_sends.state (comes q2 q1 (whats.Accepted 0 0))

abbrev second_decides : Turn SequencerState
second_decides = sequencer_step second_sends.state (comes q2 q1 (whats.Accepted 0 1))

-- sequencer 2 takes the accept of ballot 1, and then not that of ballot 0
abbrev third_accepts : Turn SequencerState
third_accepts = sequencer_step (fresh_node trio q2) (comes q1 q2 (whats.Accept 0 1 table))

abbrev third_refuses : Turn SequencerState
third_refuses = sequencer_step third_accepts.state (comes q0 q2 (whats.Accept 0 0 table))

-- sequencer 0 learns the entry from sequencer 1, which knows one more
abbrev first_learns : Turn SequencerState
first_learns = sequencer_step first_promises.state (comes q1 q0 (whats.Decided 0 2 table))

abbrev own_message : Turn SequencerState
own_message = sequencer_step second_begins.state (comes q1 q1 (whats.Prepare 0 7))

pub record Worked : Type 0 where
  pub report_of_the_primary : step_of at_primary ≡ nothing
  pub report_of_the_backup : step_of at_both ≡ step (items.Accepted 0 0 same_table ∷ items.Known same_table ∷ [])
      (sent q0 s0p (whats.Decided 0 1 same_table) ∷ sent q0 s0b (whats.Decided 0 1 same_table) ∷ sent q0 c0 (whats.Decided 0 1 same_table) ∷ sent q0 k0 (whats.Decided 0 1 same_table) ∷ []) []
  -- a step begins once: the tick decides the cut, and nothing more
  pub cut_follows : step_of ticked ≡ step (items.Accepted 1 0 (entries.Cut 0 0) ∷ items.Known (entries.Cut 0 0) ∷ [])
      (sent q0 s0p (whats.Decided 1 2 (entries.Cut 0 0)) ∷ sent q0 s0b (whats.Decided 1 2 (entries.Cut 0 0)) ∷ sent q0 c0 (whats.Decided 1 2 (entries.Cut 0 0)) ∷ sent q0 k0 (whats.Decided 1 2 (entries.Cut 0 0)) ∷ []) []
  pub known_is_told : step_of asked ≡ step [] (sent q0 c0 (whats.Decided 1 2 (entries.Cut 0 0)) ∷ []) []
  pub lagging_is_left : step_of uneven ≡ nothing
  pub lagging_fills : step_of (sequencer_step uneven.state events.Tick) ≡ step [] (sent q0 s1p (whats.Fill 1) ∷ []) []
  pub ballot_zero : step_of first_begins ≡ step (items.Accepted 0 0 table ∷ []) (sent q0 q1 (whats.Accept 0 0 table) ∷ sent q0 q2 (whats.Accept 0 0 table) ∷ []) []
  pub later_ballot : step_of second_begins ≡ step (items.Promised 0 1 ∷ []) (sent q1 q0 (whats.Prepare 0 1) ∷ sent q1 q2 (whats.Prepare 0 1) ∷ []) []
  pub promise_tells : step_of first_promises ≡ step (items.Promised 0 1 ∷ []) (sent q0 q1 (whats.Promise 0 1 (Some (0, table))) ∷ []) []
  pub reported_is_sent : step_of second_sends ≡ step (items.Accepted 0 1 table ∷ []) (sent q1 q0 (whats.Accept 0 1 table) ∷ sent q1 q2 (whats.Accept 0 1 table) ∷ []) []
  pub other_ballot_is_left : step_of late ≡ nothing
  pub majority_decides : step_of second_decides ≡ step (items.Known table ∷ [])
      (sent q1 q0 (whats.Decided 0 1 table) ∷ sent q1 q2 (whats.Decided 0 1 table) ∷ sent q1 s0p (whats.Decided 0 1 table) ∷ sent q1 s0b (whats.Decided 0 1 table)
      ∷ sent q1 s1p (whats.Decided 0 1 table) ∷ sent q1 s1b (whats.Decided 0 1 table) ∷ sent q1 c0 (whats.Decided 0 1 table) ∷ sent q1 k0 (whats.Decided 0 1 table) ∷ []) []
  pub wish_stays : second_decides.state.own.wishes ≡ commands.Remove 0 ∷ []
  pub attempt_is_over : second_decides.state.own.attempt ≡ None
  pub acceptance_goes_back : step_of third_accepts ≡ step (items.Accepted 0 1 table ∷ []) (sent q2 q1 (whats.Accepted 0 1) ∷ []) []
  pub lower_is_refused : step_of third_refuses ≡ nothing
  pub learned_and_asked_on : step_of first_learns ≡ step (items.Known table ∷ []) (sent q0 q1 (whats.Learn 1) ∷ []) []
  pub wish_is_dropped : first_learns.state.own.wishes ≡ []
  pub own_messages_are_left : step_of own_message ≡ nothing
  -- restarts
  pub acceptor_stays : acceptor_at (restart_of trio q0 (items.Accepted 0 0 table ∷ items.Promised 0 1 ∷ [])).own 0 ≡ record { promised = Some 1; accepted = Some (0, table) }
  pub lower_items_are_passed_over : acceptor_at (restart_of trio q0 (items.Promised 0 4 ∷ items.Accepted 0 1 table ∷ items.Acked ∷ [])).own 0 ≡ record { promised = Some 4; accepted = None }
  pub restart_is_the_items : (sequencer_step first_promises.state events.Restart).state ≡ restart_of trio q0 (items.Accepted 0 0 table ∷ items.Promised 0 1 ∷ [])
  pub restart_shows_nothing : step_of (sequencer_step first_promises.state events.Restart) ≡ nothing
