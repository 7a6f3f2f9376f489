use Rattle.node_runs.proofs.SeatedRuns.{seated_make_runs}
use Rattle.node_runs.proofs.laws.seated_nodes_are_a_run.Goals as goal

pub returns : goal.returns
returns g c = seated_make_runs g.D.Disk
