use Rattle.shard_node.proofs.Lives.{restart_is_the_items}
use Rattle.shard_node.proofs.laws.restart_is_the_items.Goals as goal

pub returns : goal.returns
returns c = restart_is_the_items
