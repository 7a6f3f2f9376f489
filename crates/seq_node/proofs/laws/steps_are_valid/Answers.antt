use Rattle.seq_node.proofs.Lives.{steps_are_valid}
use Rattle.seq_node.proofs.laws.steps_are_valid.Goals as goal

pub returns : goal.returns
returns c = steps_are_valid
