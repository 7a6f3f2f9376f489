use Rattle.consumer_node.specs.Apps.{any_meaning}
use Rattle.consumer_node.proofs.Lives.{reached_steps_are_valid}
use Rattle.consumer_node.proofs.Outputs.{any_outputs_fit}
use Rattle.consumer_node.proofs.laws.any_steps_are_valid.Goals as goal

pub returns : goal.returns
returns c = λ cfg me events event valid here each next. reached_steps_are_valid any_meaning cfg me events event (any_outputs_fit cfg.app) valid here each next
