-- The held outputs by position, with the room that there is for them.
use Rattle.std.specs.Prelude.{ℕ, List, [], ◌∷◌, ◌++◌}
use Rattle.app_law.specs.Positions.{below, from_on}
use Rattle.output_gate.specs.declared.kept.KeptOut.{KeptOut}

-- the held outputs, the oldest first, and how many there is room for
pub record Gate : Type 0 where
  pub room : ℕ
  pub held : List KeptOut

-- where an output stands
abbrev pub out_position : KeptOut → ℕ
out_position x = x.position

abbrev pub holding : Gate → ℕ → List ℕ → Gate
holding gate position out =
    record { room = gate.room; held = gate.held ++ record { position = position; out = out } ∷ [] }

-- the outputs below a position
abbrev pub gate_below : Gate → ℕ → Gate
gate_below gate position = record { room = gate.room; held = below out_position position gate.held }

-- the outputs from a position on
abbrev pub gate_from : Gate → ℕ → Gate
gate_from gate position = record { room = gate.room; held = from_on out_position position gate.held }
