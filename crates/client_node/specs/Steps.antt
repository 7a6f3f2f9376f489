-- A client's step table: the turn of each event, rule after rule.
use Rattle.node_rules.specs.Names.{NodeId, Event, What}
use Rattle.node_rules.specs.Names.events
use Rattle.node_rules.specs.Names.whats
use Rattle.node_rules.specs.Nodes.{Node}
use Rattle.node_rules.specs.Turns.{Turn, started}
use Rattle.node_rules.specs.Rules.{heed, decided}
use Rattle.client_node.specs.States.{ClientState}
use Rattle.client_node.specs.Rules.{submit, hear_ack, hear_fate, on_learned, on_tick}
use Rattle.client_node.specs.Restart.{reset_of}

-- a message that is heeded; the other kinds go to other nodes
abbrev pub hear : NodeId → What → Turn ClientState → Turn ClientState
hear from (whats.Decided slot count entry) t = decided on_learned from slot count entry t
hear from (whats.Ack number position) t = hear_ack number position t
hear from (whats.Fate next) t = hear_fate from next t
hear from _ t = t

-- what an event does by itself; a restart is no such event
abbrev pub handle : Event → Turn ClientState → Turn ClientState
handle (events.Submit by body) t = submit body t
handle (events.Deliver message) t = heed hear message t
handle events.Tick t = on_tick t
handle events.Restart t = t
handle (events.Command command) t = t

-- the step of each event; nothing else ends it
abbrev pub client_step : Node ClientState → Event → Turn ClientState
client_step n events.Restart = started (reset_of n)
client_step n event = handle event (started n)
