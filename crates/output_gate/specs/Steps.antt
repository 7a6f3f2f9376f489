-- What the steps of releasing and dropping do: one output at an end, by its position.
use Rattle.std.specs.Prelude.{◌≡◌, ℕ, ◌≤◌, ◌<◌, Bool, true, false, [], ◌∷◌, ◌++◌, Option, Some, None}
use Rattle.app_law.specs.Positions.{below, from_on, IsPast}
use Rattle.output_gate.specs.declared.kept.KeptOut.{KeptOut}
use Rattle.output_gate.specs.Gates.{Gate, out_position}

-- the oldest output goes where it stands below a position; else none stands below it
abbrev pub TakesOldest : ℕ → Gate → Gate → Option KeptOut → Type 0
TakesOldest p old new (Some x) = (x.position < p) × (old ≡ record { room = new.room; held = x ∷ new.held })
TakesOldest p old new None = (new ≡ old) × (below out_position p old.held ≡ []) × (from_on out_position p old.held ≡ old.held)

-- the newest output goes where it stands at a position or past it; else all stand below the position
abbrev pub DropsNewest : ℕ → Gate → Gate → Bool → Type 0
DropsNewest p old new true =
    (x : KeptOut) × (p ≤ x.position) × (old ≡ record { room = new.room; held = new.held ++ x ∷ [] })
DropsNewest p old new false = (new ≡ old) × IsPast out_position old.held p
