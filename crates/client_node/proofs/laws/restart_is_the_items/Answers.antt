use Rattle.client_node.proofs.Restarts.{restart_items}
use Rattle.client_node.proofs.laws.restart_is_the_items.Goals as goal

pub returns : goal.returns
returns c = λ cfg me events valid is each. restart_items cfg me events each
