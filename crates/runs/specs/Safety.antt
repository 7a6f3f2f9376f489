-- What every run is to be: safe.
use Rattle.net_model.specs.Pasts.{Past}
use Rattle.runs.specs.Names.{Config}
use Rattle.runs.specs.OneLog.{IsOneLog}
use Rattle.runs.specs.Truth.{IsTruthful}
use Rattle.runs.specs.Speculating.{SpeculationHolds}
use Rattle.runs.specs.Outputs.{OutputsFollowConfirmed}
use Rattle.runs.specs.Undos.{StateFollowsApplied}

-- of a past, as are all laws
pub record IsSafe (cfg : Config) (past : Past) : Type 0 where
  pub one_log : IsOneLog past
  pub truthful : IsTruthful past
  pub speculation : SpeculationHolds cfg past
  pub outputs : OutputsFollowConfirmed cfg past
  pub states : StateFollowsApplied cfg past
