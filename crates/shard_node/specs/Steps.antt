-- A replica's step table: the turn of each event, rule after rule.
use Rattle.node_rules.specs.Names.{NodeId, Event, What}
use Rattle.node_rules.specs.Names.events
use Rattle.node_rules.specs.Names.whats
use Rattle.node_rules.specs.Nodes.{Node}
use Rattle.node_rules.specs.Turns.{Turn, started}
use Rattle.node_rules.specs.Rules.{heed, decided}
use Rattle.shard_node.specs.States.{ReplicaState}
use Rattle.shard_node.specs.Logs.{hear_append, hear_fill, hear_replicate}
use Rattle.shard_node.specs.Learning.{on_learned}
use Rattle.shard_node.specs.Rules.{hear_replicated, hear_fetch, hear_ask_fate, on_tick}
use Rattle.shard_node.specs.Promises.{promise_all}
use Rattle.shard_node.specs.Restart.{reset_of}

-- a message that is heeded, so that the primary's kinds come to a primary and the backup's to a backup; the other kinds go
-- to other nodes
abbrev pub hear : NodeId → What → Turn ReplicaState → Turn ReplicaState
hear from (whats.Decided slot count entry) t = decided on_learned from slot count entry t
hear from (whats.Append first number body) t = hear_append from first number body t
hear from (whats.Fill wanted) t = hear_fill wanted t
hear from (whats.Replicate local rec) t = hear_replicate from local rec t
hear from (whats.Replicated len) t = hear_replicated len t
hear from (whats.Fetch local) t = hear_fetch from local t
hear from (whats.AskFate first least) t = hear_ask_fate from first least t
hear from _ t = t

-- what an event does by itself; a restart is no such event
abbrev pub handle : Event → Turn ReplicaState → Turn ReplicaState
handle (events.Deliver message) t = heed hear message t
handle events.Tick t = on_tick t
handle events.Restart t = t
handle (events.Submit by body) t = t
handle (events.Command command) t = t

-- the step of each event; each but a restart ends with a primary's promises
abbrev pub replica_step : Node ReplicaState → Event → Turn ReplicaState
replica_step n events.Restart = started (reset_of n)
replica_step n event = promise_all (handle event (started n))
