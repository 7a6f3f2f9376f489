use Rattle.net_model.proofs.Sources.{merges_follow}
use Rattle.net_model.proofs.laws.merges_follow.Goals as goal

pub returns : goal.returns
returns g c tables = merges_follow tables
