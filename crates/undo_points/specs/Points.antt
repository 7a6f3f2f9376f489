-- The held undos by position, and the states to which they take one back.
use Rattle.std.specs.Prelude.{◌≡◌, ℕ, List, [], ◌∷◌, ◌++◌}
use Rattle.record_codec.specs.declared.record.Record.{Record}
use Rattle.app_law.specs.Positions.{below, from_on}
use Rattle.undo_points.specs.declared.points.UndoPoint.{UndoPoint}

-- the held undos, the oldest first, and how many there is room for
pub record Points (U : Type 0) : Type 0 where
  pub room : ℕ
  pub held : List (UndoPoint U)

-- where an undo stands
abbrev pub point_position : {U : Type 0} → UndoPoint U → ℕ
point_position x = x.position

abbrev pub pushed : {U : Type 0} → Points U → ℕ → U → Points U
pushed points position undo =
    record { room = points.room; held = points.held ++ record { position = position; undo = undo } ∷ [] }

-- the points below a position
abbrev pub points_below : {U : Type 0} → Points U → ℕ → Points U
points_below points position = record { room = points.room; held = below point_position position points.held }

-- the points from a position on
abbrev pub points_from : {U : Type 0} → Points U → ℕ → Points U
points_from points position = record { room = points.room; held = from_on point_position position points.held }

-- a state once undos have taken it back, the newest of them first
abbrev pub taken_back : {S U : Type 0} → (U → S → S) → List (UndoPoint U) → S → S
taken_back restored [] s = s
taken_back restored (x ∷ points) s = restored x.undo (taken_back restored points s)

-- records that were applied one after another, beginning with a state, gave these undos
abbrev pub Gave : {S U : Type 0} → (S → Record → S) → (U → S → S) → S → List Record → List (UndoPoint U) → Type 0
Gave next restored s [] [] = Unit {0}
Gave next restored s (r ∷ log) (x ∷ points) =
    (restored x.undo (next s r) ≡ s) × Gave next restored (next s r) log points
Gave next restored s [] (x ∷ points) = ⊥
Gave next restored s (r ∷ log) [] = ⊥
