-- The first steps of a script, worked out by hand: they are a run.
use Rattle.std.specs.Prelude.{List, [], ◌∷◌}
use Rattle.node_rules.specs.Examples as examples
use Rattle.runs.specs.Names.{HistoryEntry}
use Rattle.runs.specs.Names.events
use Rattle.runs.specs.Names.marks
use Rattle.runs.specs.Names.whats
use Rattle.runs.specs.Runs.{IsRun}
use Rattle.node_rules.specs.Examples.{single, q0, s0p, s0b, c0, k0, five, comes}

-- client 0 is given the body 5, which goes to the primary (message 0), from it to the backup (1), and back (3): the
-- primary promises position 0. Reports go to the sequencer (2 and 4), the record to the consumer (5). Then the client is
-- given the body 6 (message 6)
abbrev pub steps : List HistoryEntry
steps =
    record { node = c0; event = events.Submit 0 (53 ∷ []); sends = examples.sent c0 s0p (whats.Append 0 0 (53 ∷ [])) ∷ []; marks = [] }
    ∷ record { node = s0p; event = comes c0 s0p (whats.Append 0 0 (53 ∷ [])); sends = examples.sent s0p s0b (whats.Replicate 0 five) ∷ examples.sent s0p q0 (whats.Report 1) ∷ []; marks = [] }
    ∷ record { node = s0b; event = comes s0p s0b (whats.Replicate 0 five); sends = examples.sent s0b s0p (whats.Replicated 1) ∷ examples.sent s0b q0 (whats.Report 1) ∷ []; marks = [] }
    ∷ record { node = s0p; event = comes s0b s0p (whats.Replicated 1); sends = examples.sent s0p k0 (whats.Deliver 0 five) ∷ []; marks = marks.Promise 0 five ∷ [] }
    ∷ record { node = c0; event = events.Submit 0 (54 ∷ []); sends = examples.sent c0 s0p (whats.Append 0 1 (54 ∷ [])) ∷ []; marks = [] }
    ∷ []

pub record FirstSteps : Type 0 where
  pub are_a_run : IsRun single steps
