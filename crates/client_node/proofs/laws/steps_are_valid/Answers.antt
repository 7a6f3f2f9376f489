use Rattle.client_node.proofs.Sound.{steps_are_valid}
use Rattle.client_node.proofs.laws.steps_are_valid.Goals as goal

pub returns : goal.returns
returns c = steps_are_valid
