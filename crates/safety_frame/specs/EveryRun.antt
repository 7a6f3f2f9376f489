-- A clause that holds of every past of every run of a valid cluster.
use Rattle.msg_wire.specs.Valid.{IsValidConfig}
use Rattle.net_model.specs.Pasts.{Past}
use Rattle.runs.specs.Names.{Config}
use Rattle.runs.specs.Runs.{IsPastOf}

abbrev pub OfEveryRun : (Config → Past → Type 0) → Type 0
OfEveryRun Clause = (cfg : Config) (past : Past) → IsValidConfig cfg → IsPastOf cfg past → Clause cfg past
