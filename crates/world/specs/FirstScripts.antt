-- The first steps of a script, worked out by hand: they are what the script makes, and inputs that are refused are named.
use Rattle.std.specs.Prelude.{◌≡◌, List, [], ◌∷◌, Some}
use Rattle.node_rules.specs.Examples as examples
use Rattle.world.specs.declared.errors.PlayError.TheVariants.{NoMessage, TooLong}
use Rattle.runs.specs.Names.{Input, HistoryEntry}
use Rattle.runs.specs.Names.events
use Rattle.runs.specs.Names.inputs
use Rattle.runs.specs.Names.marks
use Rattle.runs.specs.Names.whats
use Rattle.runs.specs.FirstSteps.{steps}
use Rattle.world.specs.Playing.{history_of, play_fault}
use Rattle.node_rules.specs.Examples.{single, q0, s0p, s0b, c0, k0, five, comes}

abbrev pub script : List Input
script =
    inputs.Submit 0 (53 ∷ []) ∷ inputs.Deliver 0 ∷ inputs.Deliver 1 ∷ inputs.Deliver 3 ∷ inputs.Submit 0 (54 ∷ []) ∷ []

-- seven messages were sent, so there is no message 7
abbrev pub too_early : List Input
too_early =
    inputs.Submit 0 (53 ∷ []) ∷ inputs.Deliver 0 ∷ inputs.Deliver 1 ∷ inputs.Deliver 3 ∷ inputs.Submit 0 (54 ∷ []) ∷ inputs.Deliver 7 ∷ []

-- a drain delivers the least open message: here 1, as 0 is given up; then the nodes tick, from the first one on
abbrev pub drained : List Input
drained = inputs.Submit 0 (53 ∷ []) ∷ inputs.Lose 0 ∷ inputs.Submit 0 (54 ∷ []) ∷ inputs.Drain 3 ∷ []

abbrev pub drained_steps : List HistoryEntry
drained_steps =
    record { node = c0; event = events.Submit 0 (53 ∷ []); sends = examples.sent c0 s0p (whats.Append 0 0 (53 ∷ [])) ∷ []; marks = [] }
    ∷ record { node = c0; event = events.Submit 0 (54 ∷ []); sends = examples.sent c0 s0p (whats.Append 0 1 (54 ∷ [])) ∷ []; marks = [] }
    ∷ record { node = s0p; event = comes c0 s0p (whats.Append 0 1 (54 ∷ [])); sends = []; marks = [] }
    ∷ record { node = q0; event = events.Tick; sends = []; marks = [] }
    ∷ record { node = s0p; event = events.Tick; sends = examples.sent s0p q0 (whats.Learn 0) ∷ examples.sent s0p q0 (whats.Report 0) ∷ []; marks = [] }
    ∷ []

pub record FirstScripts : Type 0 where
  pub are_made : history_of single script ≡ steps
  pub next_is_refused : play_fault single too_early ≡ Some (NoMessage 5 7 7)
  pub drain_makes : history_of single drained ≡ drained_steps
  -- two entries, and one past the limit
  pub too_long : play_fault single (inputs.Submit 0 [] ∷ inputs.Lose 0 ∷ inputs.Drain 200000 ∷ []) ≡ Some (TooLong 2)
  -- more than a line of a script can say
  pub far_too_long : play_fault single (inputs.Drain 4000000000 ∷ []) ≡ Some (TooLong 0)
  -- a message that isn't there is told before the length
  pub lost_too_early : play_fault single (inputs.Lose 0 ∷ inputs.Drain 200000 ∷ []) ≡ Some (NoMessage 0 0 0)
