use Rattle.consumer_node.specs.Apps.{meaning}
use Rattle.consumer_node.proofs.Lives.{steps_are_valid}
use Rattle.consumer_node.proofs.laws.steps_are_valid.Goals as goal

pub returns : goal.returns
returns g c = steps_are_valid (meaning g.A.App.fresh_state g.A.App.next_state g.A.App.output_of)
