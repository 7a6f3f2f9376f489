use Rattle.node_runs.proofs.NodeRuns.{nodes_make_runs}
use Rattle.node_runs.proofs.laws.merged_nodes_are_a_run.Goals as goal

pub returns : goal.returns
returns c = nodes_make_runs
