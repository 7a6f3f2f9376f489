-- What holds of every life of a client.
use Rattle.node_rules.specs.Lives as lives
use Rattle.client_node.specs.Steps.{client_step}
use Rattle.client_node.specs.Restart.{fresh_node, reset_of, restart_of}

-- a restart in place leaves what the stored items alone give
abbrev pub RestartIsTheItems : Type 0
RestartIsTheItems = lives.RestartIsTheItems client_step fresh_node reset_of restart_of

-- what a step stores and sends is valid
abbrev pub StepsAreValid : Type 0
StepsAreValid = lives.StepsAreValid client_step fresh_node
