-- Journals of the nodes of a cluster: each is a list of steps of its node from its start.
use Rattle.std.specs.Prelude.{◌≡◌, List}
use Rattle.std.specs.List.{AllByRecursion}
use Rattle.msg_wire.specs.Valid.{IsNodeOf, IsValidEvent}
use Rattle.msg_wire.specs.Steps.{IsEventAt}
use Rattle.net_model.specs.Pasts.{Past}
use Rattle.net_model.specs.Journals.{OwnSteps, IsJournal}
use Rattle.net_model.specs.Merges.{IsMergeOf}
use Rattle.net_model.specs.Sources.{InEach, DeliveriesAreSent}
use Rattle.runs.specs.Names.{NodeId, Config, Event, HistoryEntry}
use Rattle.runs.specs.Names.events
use Rattle.runs.specs.Kinds.{step_at}
use Rattle.runs.specs.Runs.{IsRun}

-- a message that comes is to this node
abbrev pub IsFor : NodeId → Event → Type 0
IsFor node (events.Deliver message) = message.to ≡ node
IsFor node (events.Submit by body) = Unit {0}
IsFor node events.Tick = Unit {0}
IsFor node events.Restart = Unit {0}
IsFor node (events.Command command) = Unit {0}

-- what a node can say of its own step, given its earlier ones: all that `Follows` asks but that what comes was sent
pub record IsOwnStep (cfg : Config) (past : Past) (e : HistoryEntry) : Type 0 where
  pub within : IsNodeOf cfg e.node
  pub valid : IsValidEvent e.event
  pub taken_there : IsEventAt e.node e.event
  pub addressed : IsFor e.node e.event
  pub sends : e.sends ≡ (step_at cfg e.node past e.event).sends
  pub shows : e.marks ≡ (step_at cfg e.node past e.event).marks

abbrev pub AreOwnSteps : Config → List OwnSteps → Type 0
AreOwnSteps cfg = InEach (IsOwnStep cfg)

-- the merge of such journals is a run, where each delivered message was sent with a smaller stamp
abbrev pub MergesAreRuns : Config → Type 0
MergesAreRuns cfg =
    (journals : List OwnSteps) (history : List HistoryEntry) → AllByRecursion IsJournal journals → AreOwnSteps cfg journals → DeliveriesAreSent journals
    → IsMergeOf journals history → IsRun cfg history
