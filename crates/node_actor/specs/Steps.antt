-- The steps of a node, whatever its type: its rules as a table, and what holds of each step of its own.
use Rattle.std.specs.Prelude.{◌≡◌}
use Rattle.msg_wire.specs.declared.config.Config.{Config}
use Rattle.msg_wire.specs.Steps.{IsEventAt}
use Rattle.msg_wire.specs.Valid.{IsNodeOf, IsValidEvent}
use Rattle.net_model.specs.declared.history.HistoryEntry.{HistoryEntry}
use Rattle.net_model.specs.declared.model.NodeModel.{Ghosts as NodeRules}
use Rattle.net_model.specs.Names.{NodeId, Event}
use Rattle.net_model.specs.Names.events
use Rattle.net_model.specs.Pasts.{Past}
use Rattle.net_model.specs.Sources.{IsStepBy}
use Rattle.net_model.specs.Tables.{StepTable}

-- what a type of nodes says of the node with a name, as a step table
abbrev pub table_at : {N : Type 0} → NodeRules N → Config → NodeId → StepTable N
table_at rules cfg node = record { fresh = rules.fresh cfg node; restart = rules.restarted cfg node; gives = rules.gives; leaves = rules.leaves }

-- a message that comes is to this node
abbrev pub IsFor : NodeId → Event → Type 0
IsFor node (events.Deliver message) = message.to ≡ node
IsFor node (events.Submit by body) = Unit {0}
IsFor node events.Tick = Unit {0}
IsFor node events.Restart = Unit {0}
IsFor node (events.Command command) = Unit {0}

-- what a node can take
pub record CanTake (node : NodeId) (event : Event) : Type 0 where
  pub valid : IsValidEvent event
  pub taken_there : IsEventAt node event
  pub addressed : IsFor node event

-- what a node can say of its own step, given its earlier ones: all but that what comes was sent
pub record IsOwnStep {N : Type 0} (rules : NodeRules N) (cfg : Config) (past : Past) (e : HistoryEntry) : Type 0 where
  pub within : IsNodeOf cfg e.node
  pub takes : CanTake e.node e.event
  pub step : IsStepBy {S = λ _. N} (table_at rules cfg) past e
