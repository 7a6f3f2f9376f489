-- The application's state at a consumer, its undos and the outputs that it holds are those of what it has applied, and an undo has its notice.
use Rattle.std.specs.Prelude.{ℕ}
use Rattle.net_model.specs.Pasts.{Past, Throughout}
use Rattle.runs.specs.Names.{Config}
use Rattle.runs.specs.Consumers.{UndosArePositions, OutputsArePositions}
use Rattle.runs.specs.Undos.{StateIsOfApplied, UndosAreDue}

abbrev pub StateIsTheFold : Config → Past → Type 0
StateIsTheFold cfg past = (consumer : ℕ) → StateIsOfApplied cfg consumer past

-- of the positions between, in order
pub record PointsArePositions (cfg : Config) (past : Past) : Type 0 where
  pub undos : UndosArePositions cfg past
  pub outputs : OutputsArePositions cfg past

-- where more was applied than a removal leaves, the undo stands right after its notice; each other one is a restart's
abbrev pub UndosHaveNotices : Config → Past → Type 0
UndosHaveNotices cfg past = Throughout (λ past e. UndosAreDue past e e.node) past
