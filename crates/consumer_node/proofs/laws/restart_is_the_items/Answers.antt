use Rattle.consumer_node.specs.Apps.{meaning}
use Rattle.consumer_node.proofs.Lives.{restart_is_the_items}
use Rattle.consumer_node.proofs.laws.restart_is_the_items.Goals as goal

pub returns : goal.returns
returns g c = restart_is_the_items (meaning g.A.App.fresh_state g.A.App.next_state g.A.App.output_of)
