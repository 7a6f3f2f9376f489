-- Short histories, each of which breaks one sentence of a law of safety, and keeps the others. The newest entry is first.
use Rattle.std.specs.Prelude.{[], ◌∷◌}
use Rattle.net_model.specs.Pasts.{Past}
use Rattle.node_rules.specs.Examples.{single, pair, trio, q0, q1, s0p, s0b, c0, k0, five, seven, comes}
use Rattle.node_rules.specs.Examples as examples
use Rattle.runs.specs.Names.{HistoryEntry}
use Rattle.runs.specs.Names.entries
use Rattle.runs.specs.Names.events
use Rattle.runs.specs.Names.commands
use Rattle.runs.specs.Names.marks
use Rattle.runs.specs.Names.whats
use Rattle.runs.specs.BrokenEntries.{shows, does, submits, five_out, promised, learns_first, is_handed_five, filling}
use Rattle.runs.specs.BrokenEntries.{triple, append, replicate, replicate_other, two_held}
use Rattle.runs.specs.Runs.{IsPastOf}
use Rattle.runs.specs.OneLog.{IsOneLog}
use Rattle.runs.specs.Truth.{IsTruthful}
use Rattle.runs.specs.Speculating.{SpeculationHolds}
use Rattle.runs.specs.Outputs.{OutputsFollowConfirmed}
use Rattle.runs.specs.Undos.{StateFollowsApplied}
use Rattle.runs.specs.Cuts.{CutsAreTrue}
use Rattle.runs.specs.Eagerness.{IsEager}

-- ---- runs

-- a message that nobody sent; it is of a number that has no acknowledgement to come, so nothing follows
abbrev pub unsent : Past
unsent = does c0 (comes s0p c0 (whats.Ack 1 0)) [] ∷ []

-- a position is told that no known window gives: the window of 2 rounds has the positions 0 and 1
abbrev pub unleased : Past
unleased =
    record {
      node = s0p;
      event = events.Tick;
      sends = examples.sent s0p q0 (whats.Learn 0) ∷ examples.sent s0p q0 (whats.Report 0) ∷ [];
      marks = marks.Promise 2 five ∷ [];
    }
    ∷ []

-- the client's message is not sent
abbrev pub silent : Past
silent = submits (53 ∷ []) ∷ []

-- a restart sends what it knows
abbrev pub talking_restart : Past
talking_restart = record { node = s0p; event = events.Restart; sends = examples.sent s0p q0 (whats.Report 0) ∷ []; marks = [] } ∷ []

-- a command at a client
abbrev pub misplaced : Past
misplaced = does c0 (events.Command (commands.Remove 0)) [] ∷ []

-- ---- one log

abbrev pub two_records : Past
two_records = shows s0b (marks.Confirm 0 seven ∷ []) ∷ shows s0p (marks.Confirm 0 five ∷ []) ∷ []

abbrev pub gap : Past
gap = shows k0 (marks.Confirm 1 five ∷ []) ∷ []

-- confirmed anew after a restart
abbrev pub confirmed_again : Past
confirmed_again = shows k0 (marks.Confirm 0 five ∷ []) ∷ does k0 events.Restart [] ∷ shows k0 (marks.Confirm 0 five ∷ []) ∷ []

-- ---- truth

abbrev pub never_submitted : Past
never_submitted = shows s0p (marks.Confirm 0 five ∷ []) ∷ []

abbrev pub other_body : Past
other_body = shows s0p (marks.Confirm 0 five ∷ []) ∷ submits (54 ∷ []) ∷ []

-- one submission at two positions
abbrev pub doubled : Past
doubled = shows s0p (marks.Confirm 0 five ∷ marks.Confirm 1 five ∷ []) ∷ submits (53 ∷ []) ∷ []

-- the later submission at the earlier position
abbrev pub out_of_order : Past
out_of_order = shows s0p (marks.Confirm 0 seven ∷ marks.Confirm 1 five ∷ []) ∷ submits (55 ∷ []) ∷ submits (53 ∷ []) ∷ []

-- the first submission is passed over
abbrev pub passed_over : Past
passed_over = shows k0 (marks.Confirm 0 seven ∷ []) ∷ submits (55 ∷ []) ∷ submits (53 ∷ []) ∷ []

abbrev pub acked_twice : Past
acked_twice = shows c0 (marks.Ack 0 0 ∷ []) ∷ shows c0 (marks.Ack 0 0 ∷ []) ∷ shows s0p (marks.Confirm 0 five ∷ []) ∷ submits (53 ∷ []) ∷ []

-- acknowledged before it is confirmed
abbrev pub acked_early : Past
acked_early = shows s0p (marks.Confirm 0 five ∷ []) ∷ shows c0 (marks.Ack 0 0 ∷ []) ∷ submits (53 ∷ []) ∷ []

-- ---- speculation

abbrev pub broken_promise : Past
broken_promise = shows k0 (marks.Confirm 0 seven ∷ []) ∷ promised ∷ []

-- the removal is noticed, but only after the other record was confirmed
abbrev pub noticed_late : Past
noticed_late = learns_first (entries.Remove 0 0) (marks.Confirm 0 seven ∷ marks.Notice 0 ∷ []) ∷ promised ∷ []

-- the removal moves later positions alone
abbrev pub noticed_above : Past
noticed_above = learns_first (entries.Remove 0 1) (marks.Notice 1 ∷ marks.Confirm 0 seven ∷ []) ∷ promised ∷ []

-- nothing was removed
abbrev pub false_alarm : Past
false_alarm = shows k0 (marks.Notice 0 ∷ []) ∷ []

-- shard 1 is removed, whose first position is 1; the base of the window is named
abbrev pub base_named : Past
base_named = learns_first (entries.Remove 0 1) (marks.Notice 0 ∷ []) ∷ []

-- ---- outputs

abbrev pub applied_past_end : Past
applied_past_end = shows k0 (marks.Apply 1 five ∷ []) ∷ []

-- the record is handed and covered, and shown as confirmed alone
abbrev pub confirmed_unapplied : Past
confirmed_unapplied = learns_first (entries.Cut 0 0) (marks.Confirm 0 five ∷ five_out ∷ []) ∷ is_handed_five [] ∷ []

-- the output goes out as the record is applied
abbrev pub output_when_applied : Past
output_when_applied = shows k0 (marks.Apply 0 five ∷ five_out ∷ []) ∷ []

abbrev pub output_missing : Past
output_missing = learns_first (entries.Cut 0 0) (marks.Confirm 0 five ∷ []) ∷ is_handed_five (marks.Apply 0 five ∷ []) ∷ []

-- a tick stores nothing
abbrev pub confirmed_unstored : Past
confirmed_unstored = shows k0 (marks.Apply 0 filling ∷ marks.Confirm 0 filling ∷ []) ∷ []

-- ---- states and undos

-- a tick leaves the fresh state, in which nothing is added
abbrev pub state_behind : Past
state_behind = shows k0 (marks.Apply 0 five ∷ []) ∷ []

abbrev pub undone_unnoticed : Past
undone_unnoticed = shows k0 (marks.Undo 0 ∷ []) ∷ shows k0 (marks.Apply 0 filling ∷ []) ∷ []

-- the undo goes below the first failed position
abbrev pub undone_too_far : Past
undone_too_far = shows k0 (marks.Notice 1 ∷ marks.Undo 0 ∷ []) ∷ shows k0 (marks.Apply 0 filling ∷ marks.Apply 1 filling ∷ []) ∷ []

abbrev pub not_undone : Past
not_undone = shows k0 (marks.Notice 0 ∷ []) ∷ shows k0 (marks.Apply 0 filling ∷ []) ∷ []

-- an undo of nothing
abbrev pub undone_for_nothing : Past
undone_for_nothing = shows k0 (marks.Notice 0 ∷ marks.Undo 0 ∷ []) ∷ []

-- a restart takes back what is confirmed
abbrev pub confirmed_undone : Past
confirmed_undone = does k0 events.Restart (marks.Undo 0 ∷ []) ∷ shows k0 (marks.Apply 0 filling ∷ marks.Confirm 0 filling ∷ []) ∷ []

-- ---- cuts

-- sequencer 1 accepts a cut of the first round, or of the second one
abbrev pub accept_early : HistoryEntry
accept_early = does q1 (comes q0 q1 (whats.Accept 0 0 (entries.Cut 0 0))) []

abbrev pub accept_other : HistoryEntry
accept_other = does q1 (comes q0 q1 (whats.Accept 0 0 (entries.Cut 0 1))) []

-- the primary alone holds the round
abbrev pub cut_too_early : Past
cut_too_early = accept_early ∷ append ∷ []

-- of two shards the first alone holds its part of the round
abbrev pub lag_skipped : Past
lag_skipped = accept_early ∷ replicate ∷ append ∷ []

-- the replicas hold different records
abbrev pub logs_apart : Past
logs_apart = accept_early ∷ replicate_other ∷ append ∷ []

-- nothing is chosen at slot 0
abbrev pub accept_later : HistoryEntry
accept_later = does q1 (comes q0 q1 (whats.Accept 1 0 (entries.Cut 0 0))) []

abbrev pub cut_after_nothing : Past
cut_after_nothing = accept_later ∷ replicate ∷ append ∷ []

-- the second round comes before the first
abbrev pub cut_of_other_round : Past
cut_of_other_round = accept_other ∷ two_held

-- ---- eagerness

-- the first record is handed to the consumer, which doesn't apply it
abbrev pub not_applied : Past
not_applied = is_handed_five [] ∷ []

-- it applies what it wasn't handed
abbrev pub made_up : Past
made_up = shows k0 (marks.Apply 0 five ∷ []) ∷ []

-- both replicas hold the record, and the primary doesn't tell its position
abbrev pub not_promised : Past
not_promised = does s0p (comes s0b s0p (whats.Replicated 1)) [] ∷ append ∷ []

-- ---- each is refused

pub record Refused : Type 0 where
  -- runs
  pub unsent_comes : ¬ IsPastOf single unsent
  pub unleased_is_promised : ¬ IsPastOf single unleased
  pub send_is_left_out : ¬ IsPastOf single silent
  pub restart_sends : ¬ IsPastOf single talking_restart
  pub command_at_a_client : ¬ IsPastOf single misplaced
  -- one log
  pub two_records_at_one_position : ¬ IsOneLog two_records
  pub position_left_out : ¬ IsOneLog gap
  pub position_confirmed_again : ¬ IsOneLog confirmed_again
  -- truth
  pub record_of_nobody : ¬ IsTruthful never_submitted
  pub record_with_another_body : ¬ IsTruthful other_body
  pub record_twice : ¬ IsTruthful doubled
  pub records_out_of_order : ¬ IsTruthful out_of_order
  pub number_left_out : ¬ IsTruthful passed_over
  pub ack_twice : ¬ IsTruthful acked_twice
  pub ack_before_its_record : ¬ IsTruthful acked_early
  -- speculation
  pub other_record_confirmed : ¬ SpeculationHolds single broken_promise
  pub notice_after_the_record : ¬ SpeculationHolds pair noticed_late
  pub notice_of_later_positions : ¬ SpeculationHolds pair noticed_above
  pub notice_without_removal : ¬ SpeculationHolds single false_alarm
  pub notice_of_another_position : ¬ SpeculationHolds pair base_named
  -- outputs
  pub apply_past_the_end : ¬ OutputsFollowConfirmed single applied_past_end
  pub confirmed_before_applied : ¬ OutputsFollowConfirmed single confirmed_unapplied
  pub output_before_confirmation : ¬ OutputsFollowConfirmed single output_when_applied
  pub output_left_out : ¬ OutputsFollowConfirmed single output_missing
  pub confirmation_not_stored : ¬ OutputsFollowConfirmed single confirmed_unstored
  -- states and undos
  pub state_of_another_list : ¬ StateFollowsApplied single state_behind
  pub undo_without_notice : ¬ StateFollowsApplied single undone_unnoticed
  pub undo_below_its_notice : ¬ StateFollowsApplied single undone_too_far
  pub notice_without_undo : ¬ StateFollowsApplied single not_undone
  pub undo_of_nothing : ¬ StateFollowsApplied single undone_for_nothing
  pub restart_undoes_confirmed : ¬ StateFollowsApplied single confirmed_undone
  -- cuts
  pub cut_on_the_primary_alone : ¬ CutsAreTrue triple cut_too_early
  pub lagging_shard_skipped : ¬ CutsAreTrue trio lag_skipped
  pub logs_differ : ¬ CutsAreTrue triple logs_apart
  pub cut_after_an_open_slot : ¬ CutsAreTrue triple cut_after_nothing
  pub round_out_of_turn : ¬ CutsAreTrue triple cut_of_other_round
  -- eagerness
  pub handed_and_not_applied : ¬ IsEager single not_applied
  pub applied_and_not_handed : ¬ IsEager single made_up
  pub durable_and_not_promised : ¬ IsEager single not_promised
