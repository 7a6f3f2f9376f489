-- What the steps of going back and forgetting do: one point at an end, by its position.
use Rattle.std.specs.Prelude.{◌≡◌, ℕ, ◌≤◌, ◌<◌, Bool, true, false, ◌∷◌, Option, Some, None}
use Rattle.app_law.specs.Positions.{from_on, IsPast}
use Rattle.undo_points.specs.Points.{Points, point_position, pushed}

-- the newest point goes where it stands at a position or past it; else all stand below the position
abbrev pub TakesNewest : {U : Type 0} → ℕ → Points U → Points U → Option U → Type 0
TakesNewest p old new (Some undo) = (at : ℕ) × (p ≤ at) × (old ≡ pushed new at undo)
TakesNewest p old new None = (new ≡ old) × IsPast point_position old.held p

-- the oldest point goes where it stands below a position; else none stands below it
abbrev pub DropsOldest : {U : Type 0} → ℕ → Points U → Points U → Bool → Type 0
DropsOldest {U} p old new true =
    (at : ℕ) × (undo : U) × (at < p) × (old ≡ record { room = new.room; held = record { position = at; undo = undo } ∷ new.held })
DropsOldest p old new false = (new ≡ old) × (from_on point_position p old.held ≡ old.held)
