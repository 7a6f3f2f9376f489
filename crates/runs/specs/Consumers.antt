-- The law of consumers: what is confirmed is covered and applied, and what is kept for undos and outputs is that of the positions between.
use Rattle.std.specs.Prelude.{◌≡◌, ℕ, ◌-◌, ◌≤◌, List, [], ◌∷◌, map, length, take, get_or}
use Rattle.std.specs.List.{range_with_len}
use Rattle.app_law.specs.declared.any_app.AnyApp.{AnyApp}
use Rattle.app_law.specs.AnyApps.{any_next, any_output}
use Rattle.consumer_node.specs.States.{ConsumerState}
use Rattle.net_model.specs.Pasts.{Past}
use Rattle.runs.specs.Names.{Config, Record}
use Rattle.runs.specs.Names.nodes
use Rattle.runs.specs.Names.records
use Rattle.runs.specs.Kinds.{consumer_after}
use Rattle.runs.specs.Known.{agreed_at}
use Rattle.runs.specs.Marks.{confirmed_list, applied_log}
use Rattle.runs.specs.Outputs.{app_after}

-- ---- counts

abbrev pub confirmed_count : ℕ → Past → ℕ
confirmed_count consumer past = length (confirmed_list consumer past)

abbrev pub applied_count : ℕ → Past → ℕ
applied_count consumer past = length (applied_log consumer past)

abbrev pub ConfirmedIsCovered : Config → Past → Type 0
ConfirmedIsCovered cfg past = (consumer : ℕ) → confirmed_count consumer past ≤ length (agreed_at cfg (nodes.Consumer consumer) past).covered

abbrev pub ConfirmedIsApplied : Past → Type 0
ConfirmedIsApplied past = (consumer : ℕ) → confirmed_count consumer past ≤ applied_count consumer past

-- ---- the positions between

-- those that a consumer has applied and not confirmed
abbrev pub positions_between : ℕ → Past → List ℕ
positions_between consumer past = range_with_len (confirmed_count consumer past) (applied_count consumer past - confirmed_count consumer past)

-- the application's state before the record of a position
abbrev pub state_before : Config → ℕ → Past → ℕ → AnyApp
state_before cfg consumer past position = app_after cfg (take position (applied_log consumer past))

-- what it writes for that record
abbrev pub output_at : Config → ℕ → Past → ℕ → List ℕ
output_at cfg consumer past position = any_output (state_before cfg consumer past position) (get_or (applied_log consumer past) position records.Noop)

-- the states before each of the records, and what is written for each, one after another from a state on
abbrev pub states_from : AnyApp → List Record → List AnyApp
states_from state [] = []
states_from state (rec ∷ later) = state ∷ states_from (any_next state rec) later

abbrev pub outputs_from : AnyApp → List Record → List (List ℕ)
outputs_from state [] = []
outputs_from state (rec ∷ later) = any_output state rec ∷ outputs_from (any_next state rec) later

-- the states to which a consumer's undos lead back, and the outputs that it holds
abbrev pub undo_states : ConsumerState AnyApp → List AnyApp
undo_states own = states_from own.base own.pending

abbrev pub held_outputs : ConsumerState AnyApp → List (List ℕ)
held_outputs own = outputs_from own.base own.pending

abbrev pub UndosArePositions : Config → Past → Type 0
UndosArePositions cfg past =
    (consumer : ℕ) → undo_states (consumer_after cfg consumer past).own ≡ map (state_before cfg consumer past) (positions_between consumer past)

abbrev pub OutputsArePositions : Config → Past → Type 0
OutputsArePositions cfg past =
    (consumer : ℕ) → held_outputs (consumer_after cfg consumer past).own ≡ map (output_at cfg consumer past) (positions_between consumer past)

pub record ConsumersHold (cfg : Config) (past : Past) : Type 0 where
  pub confirmed_is_covered : ConfirmedIsCovered cfg past
  pub confirmed_is_applied : ConfirmedIsApplied past
  pub undos_are_positions : UndosArePositions cfg past
  pub outputs_are_positions : OutputsArePositions cfg past
