-- What ties what a consumer keeps to what contracts see of it.
use Rattle.std.specs.Prelude.{◌≡◌, ℕ, ◌+◌, ◌<◌, ◌≤◌, ◌^◌, List, [], ◌∷◌, length}
use Rattle.std.specs.List.{AllByRecursion}
use Rattle.app_law.specs.Folds.{fold_of}
use Rattle.app_law.specs.Positions.{IsPast}
use Rattle.undo_points.specs.Points.{Points, point_position, taken_back, Gave}
use Rattle.output_gate.specs.declared.kept.KeptOut.{KeptOut}
use Rattle.output_gate.specs.Gates.{Gate, out_position}
use Rattle.spec_delivery.specs.Lanes.{LaneState}
use Rattle.node_rules.specs.Names.{Record}

-- items stand at one position after another, from one on
abbrev pub StandFrom : {T : Type 0} → (T → ℕ) → ℕ → List T → Type 0
StandFrom position at [] = Unit {0}
StandFrom position at (x ∷ xs) = (position x ≡ at) × StandFrom position (at + 1) xs

-- records that were applied one after another, beginning with a state, gave these outputs, each of at most 64 bytes
abbrev pub GaveOutputs : {S : Type 0} → (S → Record → S) → (S → Record → List ℕ) → S → List Record → List KeptOut → Type 0
GaveOutputs next output s [] [] = Unit {0}
GaveOutputs next output s (r ∷ log) (x ∷ held) =
    ((x.out ≡ output s r) × (length x.out ≤ 64)) × GaveOutputs next output (next s r) log held
GaveOutputs next output s [] (x ∷ held) = ⊥
GaveOutputs next output s (r ∷ log) [] = ⊥

-- from the state after the confirmed records, the pending ones gave the application's state, the undos and the outputs,
-- which stand at their positions; and there is room for 640 records of each of 6 shards
pub record IsAppliedAheadFrom {A U : Type 0} (next : A → Record → A) (output : A → Record → List ℕ) (restored : U → A → A) (base : A) (undos : Points U) (gate : Gate) (app : A) (pending : List Record) (confirmed : ℕ) : Type 0 where
  pub state : app ≡ fold_of next base pending
  pub gave : Gave next restored base pending undos.held
  pub outputs : GaveOutputs next output base pending gate.held
  pub undos_stand : StandFrom point_position confirmed undos.held
  pub outputs_stand : StandFrom out_position confirmed gate.held
  pub undo_room : undos.room ≡ 3840
  pub output_room : gate.room ≡ 3840
  pub few : length pending ≤ 3840
  pub most : confirmed ≤ 2 ^ 48

-- there is room for what takes one more record back, and for its output, past all that are held
pub record HasRoom {U : Type 0} (undos : Points U) (gate : Gate) (position : ℕ) : Type 0 where
  pub undo : length undos.held < undos.room
  pub undo_past : IsPast point_position undos.held position
  pub gives : length gate.held < gate.room
  pub gives_past : IsPast out_position gate.held position

-- the state after the confirmed records is the application's, taken back by all undos
abbrev pub IsAppliedAhead : {A U : Type 0} → (A → Record → A) → (A → Record → List ℕ) → (U → A → A) → Points U → Gate → A → List Record → ℕ → Type 0
IsAppliedAhead next output restored undos gate app pending confirmed =
    IsAppliedAheadFrom next output restored (taken_back restored undos.held app) undos gate app pending confirmed

-- six shards, and no more of one confirmed than of all
pub record AreLanes (confirmed : ℕ) (lanes : List LaneState) : Type 0 where
  pub shards : length lanes ≡ 6
  pub floors : AllByRecursion (λ (lane : LaneState). lane.floor ≤ confirmed) lanes
