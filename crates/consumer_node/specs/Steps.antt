-- A consumer's step table, over an application's meaning: the turn of each event, rule after rule.
use Rattle.msg_wire.specs.Nodes.{number_of}
use Rattle.node_rules.specs.Names.{NodeId, Event, What}
use Rattle.node_rules.specs.Names.events
use Rattle.node_rules.specs.Names.marks
use Rattle.node_rules.specs.Names.whats
use Rattle.node_rules.specs.Nodes.{Node}
use Rattle.node_rules.specs.Turns.{Turn, started, show}
use Rattle.node_rules.specs.Rules.{heed, decided}
use Rattle.consumer_node.specs.Apps.{Meaning}
use Rattle.consumer_node.specs.States.{ConsumerState}
use Rattle.consumer_node.specs.Rules.{hear_deliver, on_learned, on_tick}
use Rattle.consumer_node.specs.Speculation.{finish}
use Rattle.consumer_node.specs.Restart.{reset_of}

-- a message that is heeded; the other kinds go to other nodes
abbrev pub hear : {A : Type 0} → NodeId → What → Turn (ConsumerState A) → Turn (ConsumerState A)
hear from (whats.Decided slot count entry) t = decided on_learned from slot count entry t
hear from (whats.Deliver local rec) t = hear_deliver (number_of from) local rec t
hear from _ t = t

-- what an event does by itself; a restart is no such event
abbrev pub handle : {A : Type 0} → Event → Turn (ConsumerState A) → Turn (ConsumerState A)
handle (events.Deliver message) t = heed hear message t
handle events.Tick t = on_tick t
handle events.Restart t = t
handle (events.Submit by body) t = t
handle (events.Command command) t = t

-- Restart: what was applied beyond the confirmed records is undone
abbrev pub restart : {A : Type 0} → Node (ConsumerState A) → Turn (ConsumerState A)
restart n = show (marks.Undo n.own.confirmed) (started (reset_of n))

-- the step of each event; each but a restart ends with applying and confirming
abbrev pub consumer_step : {A : Type 0} → Meaning A → Node (ConsumerState A) → Event → Turn (ConsumerState A)
consumer_step app n events.Restart = restart n
consumer_step app n event = finish app (handle event (started n))
