-- Runs: the histories that follow the step tables.
use Rattle.std.specs.Prelude.{◌≡◌, List, Contains}
use Rattle.net_model.specs.Pasts.{Past, past_of, sent, Throughout}
use Rattle.msg_wire.specs.Valid.{IsNodeOf, IsValidEvent}
use Rattle.msg_wire.specs.Steps.{IsEventAt}
use Rattle.runs.specs.Names.{NodeId, Config, Event, HistoryEntry}
use Rattle.runs.specs.Names.events
use Rattle.runs.specs.Kinds.{step_at}

-- a message that comes was sent to this node, in an earlier entry
abbrev pub Comes : Past → NodeId → Event → Type 0
Comes past node (events.Deliver message) = (message.to ≡ node) × Contains (sent past) message
Comes past node (events.Submit by body) = Unit {0}
Comes past node events.Tick = Unit {0}
Comes past node events.Restart = Unit {0}
Comes past node (events.Command command) = Unit {0}

-- an entry is a step of a node of the cluster: it takes what there is to take, and sends and shows what the node's table
-- says, from the state that the node's earlier entries leave
pub record Follows (cfg : Config) (past : Past) (e : HistoryEntry) : Type 0 where
  pub within : IsNodeOf cfg e.node
  pub valid : IsValidEvent e.event
  pub taken_there : IsEventAt e.node e.event
  pub comes : Comes past e.node e.event
  pub sends : e.sends ≡ (step_at cfg e.node past e.event).sends
  pub shows : e.marks ≡ (step_at cfg e.node past e.event).marks

abbrev pub IsPastOf : Config → Past → Type 0
IsPastOf cfg = Throughout (Follows cfg)

-- a history of the cluster, the oldest entry first, in which every entry is such a step
abbrev pub IsRun : Config → List HistoryEntry → Type 0
IsRun cfg history = IsPastOf cfg (past_of history)
