use Rattle.std.proofs.Common.{ap}
use Rattle.node_rules.specs.Turns.{Turn, empty_step}
use Rattle.consumer_node.specs.States.{ConsumerState}
use Rattle.consumer_node.proofs.restart.close.Goals as goal

pub returns : goal.returns
returns g c = ap (λ (t : Turn (ConsumerState g.row.A.Denot)). t.state) (c.close_all.ensures empty_step)
