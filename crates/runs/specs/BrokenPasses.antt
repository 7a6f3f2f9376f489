-- Short histories, each of which breaks one sentence of the laws of agreement, logs, clients, maps or consumers, or of two speculations.
use Rattle.std.specs.Prelude.{List, ℕ, [], ◌∷◌, ◌+◌}
use Rattle.quota_table.specs.declared.rows.Row.{Row}
use Rattle.net_model.specs.Pasts.{Past}
use Rattle.node_rules.specs.Examples.{single, pair, two_rows, q0, q1, q2, s0p, s0b, s1p, s1b, c0, k0, five, seven, comes}
use Rattle.node_rules.specs.Examples as examples
use Rattle.runs.specs.Names.{NodeId, Config, Entry, What, Record, HistoryEntry}
use Rattle.runs.specs.Names.entries
use Rattle.runs.specs.Names.events
use Rattle.runs.specs.Names.records
use Rattle.runs.specs.Names.marks
use Rattle.runs.specs.Names.whats
use Rattle.runs.specs.Chosen.{OneIsChosen, KnownIsAgreed}
use Rattle.runs.specs.Agreement.{OneValuePerBallot}
use Rattle.runs.specs.Speculating.{SpeculationAgrees, OneRecordUnnoticed}
use Rattle.runs.specs.Logs.{BackupIsAPrefix, ReportsTell, ReplicatedsTell, DeliversTell, CoveredIsHeld}
use Rattle.runs.specs.Homes.{OneFirstPerShard, HomesEndWhereTheNextBegins, LaterHomesBeginLater}
use Rattle.runs.specs.Maps.{KnownMapsAgree}
use Rattle.runs.specs.Consumers.{ConfirmedIsCovered, ConfirmedIsApplied, UndosArePositions, OutputsArePositions}
use Rattle.runs.specs.BrokenEntries.{shows, does, submits, promised, triple, append, replicate, replicate_other}

-- a tick at which a node sends this
abbrev tells : NodeId → NodeId → What → HistoryEntry
tells node to what = record { node = node; event = events.Tick; sends = examples.sent node to what ∷ []; marks = [] }

-- a node learns the entry of a slot
abbrev learns : NodeId → ℕ → Entry → HistoryEntry
learns node slot entry = does node (comes q0 node (whats.Decided slot (slot + 1) entry)) []

abbrev nothing : Entry
nothing = entries.Nothing

-- shard 0 goes, from the first window
abbrev pub removal : Entry
removal = entries.Remove 0 0

abbrev pub cut : Entry
cut = entries.Cut 0 0

-- ---- agreement

-- a sequencer accepts an entry in slot 0
abbrev accepts : NodeId → ℕ → Entry → HistoryEntry
accepts node ballot entry = does node (comes q0 node (whats.Accept 0 ballot entry)) []

abbrev pub accepted_two : Past
accepted_two = accepts q2 0 removal ∷ accepts q1 0 nothing ∷ []

abbrev pub offered_two : Past
offered_two = tells q0 q2 (whats.Accept 0 0 removal) ∷ tells q0 q1 (whats.Accept 0 0 nothing) ∷ []

-- a majority accepts the one, and later the other
abbrev pub chosen_two : Past
chosen_two = accepts q2 3 removal ∷ accepts q1 3 removal ∷ accepts q2 0 nothing ∷ accepts q1 0 nothing ∷ []

abbrev pub known_unchosen : Past
known_unchosen = learns k0 0 nothing ∷ []

abbrev pub known_apart : Past
known_apart = learns c0 0 removal ∷ learns k0 0 nothing ∷ []

-- ---- two speculations

abbrev pub speculated_apart : Past
speculated_apart = shows k0 (marks.Apply 0 seven ∷ []) ∷ promised ∷ []

-- one node applies two records at a position, one before a restart and one after it
abbrev pub speculated_again : Past
speculated_again = shows k0 (marks.Apply 0 seven ∷ []) ∷ does k0 events.Restart (marks.Undo 0 ∷ []) ∷ shows k0 (marks.Apply 0 five ∷ []) ∷ []

-- a third node noticed the removal
abbrev pub noticed_elsewhere : Past
noticed_elsewhere = shows k0 (marks.Apply 0 seven ∷ []) ∷ shows s0b (marks.Notice 0 ∷ []) ∷ promised ∷ []

abbrev pub noticed_afterwards : Past
noticed_afterwards = shows k0 (marks.Apply 0 seven ∷ marks.Notice 0 ∷ []) ∷ promised ∷ []

-- the removal moves later positions alone
abbrev pub noticed_past_it : Past
noticed_past_it = shows k0 (marks.Notice 1 ∷ marks.Apply 0 seven ∷ []) ∷ promised ∷ []

abbrev pub confirmed_apart : Past
confirmed_apart = shows k0 (marks.Confirm 0 seven ∷ []) ∷ promised ∷ []

-- ---- logs

abbrev pub copied_other : Past
copied_other = replicate_other ∷ append ∷ []

abbrev pub copied_ahead : Past
copied_ahead = replicate ∷ []

abbrev pub reported_ahead : Past
reported_ahead = tells s0p q0 (whats.Report 1) ∷ []

-- the record comes after its report
abbrev pub reported_early : Past
reported_early = append ∷ tells s0p q0 (whats.Report 1) ∷ []

-- the primary alone has the record
abbrev pub replicated_ahead : Past
replicated_ahead = tells s0b s0p (whats.Replicated 1) ∷ append ∷ []

abbrev pub delivered_ahead : Past
delivered_ahead = tells s0p k0 (whats.Deliver 0 five) ∷ append ∷ []

abbrev pub delivered_other : Past
delivered_other = tells s0p k0 (whats.Deliver 0 seven) ∷ replicate ∷ append ∷ []

abbrev pub covered_ahead : Past
covered_ahead = learns k0 0 cut ∷ append ∷ []

-- ---- clients

abbrev pub first_changed : Past
first_changed = tells c0 s0p (whats.Append 1 1 []) ∷ tells c0 s0p (whats.Append 0 0 []) ∷ []

-- number 0 is acknowledged and is not in the log of the home that is gone
abbrev pub moved_too_far : Past
moved_too_far =
    does c0 (comes s0p c0 (whats.Fate 1)) [] ∷ learns c0 0 removal ∷ does c0 (comes s0p c0 (whats.Ack 0 0)) [] ∷ submits (53 ∷ []) ∷ []

-- the new home's log that counts has a record of the client at a local that a cut before the removal covered
abbrev pub begun_early : Past
begun_early =
    does c0 (comes s0p c0 (whats.Fate 0)) [] ∷ learns c0 1 removal ∷ learns c0 0 cut ∷ does s1b (comes s1p s1b (whats.Replicate 0 five)) [] ∷ []

-- ---- maps

-- a cluster that is none: its first window has no rounds, so that a removal takes a granted position below its first
abbrev pub hollow : Config
hollow = record pair { rounds = 0 }

abbrev pub swapped_rows : List Row
swapped_rows = record { shard = 1; quota = 1 } ∷ record { shard = 0; quota = 1 } ∷ []

abbrev pub position_lost : Past
position_lost = learns k0 1 (entries.Remove 0 1) ∷ learns k0 0 (entries.Table 0 2 two_rows) ∷ []

-- a cut gives a granted position to another shard
abbrev pub position_moved : Past
position_moved = learns k0 1 cut ∷ learns k0 0 (entries.Table 0 2 swapped_rows) ∷ []

-- ---- consumers

abbrev pub confirmed_uncovered : Past
confirmed_uncovered = shows k0 (marks.Apply 0 five ∷ marks.Confirm 0 five ∷ []) ∷ []

abbrev pub confirmed_unapplied : Past
confirmed_unapplied = shows k0 (marks.Confirm 0 five ∷ []) ∷ learns k0 0 cut ∷ []

-- a record with the digit 0, which changes no sum
abbrev zero_added : Record
zero_added = records.Data 0 0 (48 ∷ [])

-- the node confirms the record with the digit 0, and shows one that fills a place; the record 5 is applied after it
abbrev pub undone_otherwise : Past
undone_otherwise =
    does k0 (comes s0p k0 (whats.Deliver 1 five)) (marks.Apply 1 five ∷ [])
    ∷ does k0 (comes q0 k0 (whats.Decided 0 1 cut)) (marks.Confirm 0 records.Noop ∷ [])
    ∷ does k0 (comes s0p k0 (whats.Deliver 0 zero_added)) (marks.Apply 0 records.Noop ∷ [])
    ∷ []

-- the node applies the record 5, and shows another
abbrev pub output_otherwise : Past
output_otherwise = does k0 (comes s0p k0 (whats.Deliver 0 five)) (marks.Apply 0 seven ∷ []) ∷ []

-- ---- each is refused, by the sentence that it breaks

pub record RefusedPasses : Type 0 where
  -- agreement
  pub two_values_accepted : ¬ OneValuePerBallot triple accepted_two
  pub two_values_offered : ¬ OneValuePerBallot triple offered_two
  pub two_entries_chosen : ¬ OneIsChosen triple chosen_two
  pub known_and_not_chosen : ¬ KnownIsAgreed triple known_unchosen
  pub known_lists_part : ¬ KnownIsAgreed triple known_apart
  -- two speculations
  pub two_nodes_apart : ¬ SpeculationAgrees speculated_apart
  pub one_node_twice : ¬ SpeculationAgrees speculated_again
  pub notice_of_a_third_node : ¬ SpeculationAgrees noticed_elsewhere
  pub notice_after_both : ¬ SpeculationAgrees noticed_afterwards
  pub notice_of_positions_past_it : ¬ SpeculationAgrees noticed_past_it
  pub two_records_unnoticed : ¬ OneRecordUnnoticed confirmed_apart
  -- logs
  pub copy_of_another_record : ¬ BackupIsAPrefix triple copied_other
  pub copy_of_no_record : ¬ BackupIsAPrefix triple copied_ahead
  pub report_past_the_log : ¬ ReportsTell triple reported_ahead
  pub report_before_the_record : ¬ ReportsTell triple reported_early
  pub replicated_past_the_log : ¬ ReplicatedsTell triple replicated_ahead
  pub delivered_past_the_backup : ¬ DeliversTell triple delivered_ahead
  pub another_record_delivered : ¬ DeliversTell triple delivered_other
  pub covered_past_the_backup : ¬ CoveredIsHeld single covered_ahead
  -- clients
  pub two_firsts_at_one_shard : ¬ OneFirstPerShard first_changed
  pub number_left_behind : ¬ HomesEndWhereTheNextBegins pair moved_too_far
  pub record_at_a_covered_local : ¬ LaterHomesBeginLater pair begun_early
  -- maps
  pub position_is_lost : ¬ KnownMapsAgree hollow position_lost
  pub position_has_another_owner : ¬ KnownMapsAgree hollow position_moved
  -- consumers
  pub confirmed_and_not_covered : ¬ ConfirmedIsCovered single confirmed_uncovered
  pub confirmed_and_not_applied : ¬ ConfirmedIsApplied confirmed_unapplied
  pub undo_to_another_state : ¬ UndosArePositions single undone_otherwise
  pub another_output_held : ¬ OutputsArePositions single output_otherwise
