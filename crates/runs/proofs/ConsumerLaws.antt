-- The law of consumers that runs stand on, of the application of any kind.
use Rattle.consumer_node.specs.Apps.{any_meaning}
use Rattle.consumer_node.specs.Laws.{RestartIsTheItems}
use Rattle.consumer_node.proofs.Lives.{restart_is_the_items}

pub consumer_restarts : RestartIsTheItems any_meaning
consumer_restarts = restart_is_the_items any_meaning
