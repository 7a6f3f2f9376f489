-- What holds of every life of a replica.
use Rattle.node_rules.specs.Lives as lives
use Rattle.shard_node.specs.Steps.{replica_step}
use Rattle.shard_node.specs.Restart.{fresh_node, reset_of, restart_of}

-- a restart in place leaves what the stored items alone give
abbrev pub RestartIsTheItems : Type 0
RestartIsTheItems = lives.RestartIsTheItems replica_step fresh_node reset_of restart_of

-- what a step stores and sends is valid
abbrev pub StepsAreValid : Type 0
StepsAreValid = lives.StepsAreValid replica_step fresh_node
