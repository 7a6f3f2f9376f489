-- Nodes of any kind by one table, and journals of their steps: when the merge of such journals is a run.
use Rattle.std.specs.Prelude.{List}
use Rattle.std.specs.List.{AllByRecursion}
use Rattle.msg_wire.specs.Valid.{IsNodeOf, IsValidEvent}
use Rattle.msg_wire.specs.Steps.{IsEventAt}
use Rattle.net_model.specs.Pasts.{Past}
use Rattle.net_model.specs.Tables.{StepTable}
use Rattle.net_model.specs.Journals.{OwnSteps, IsJournal}
use Rattle.net_model.specs.Merges.{IsMergeOf}
use Rattle.net_model.specs.Sources.{IsStepBy, InEach, DeliveriesAreSent}
use Rattle.runs.specs.Names.{NodeId, Config, HistoryEntry}
use Rattle.runs.specs.Journals.{IsFor}
use Rattle.runs.specs.Runs.{IsRun}
use Rattle.world.specs.declared.any_node.AnyNode.{AnyNode}
use Rattle.world.specs.AnyNodes.{fresh_any, restarted_any, gives_any, leaves_any}

-- the table of a node, of whatever kind it is
abbrev pub any_table : Config → NodeId → StepTable AnyNode
any_table cfg node = record { fresh = fresh_any cfg node; restart = restarted_any cfg node; gives = gives_any; leaves = leaves_any }

-- what a node can say of its own step, given its earlier ones: all that a run asks but that what comes was sent
pub record IsNodeStep (cfg : Config) (past : Past) (e : HistoryEntry) : Type 0 where
  pub within : IsNodeOf cfg e.node
  pub valid : IsValidEvent e.event
  pub taken_there : IsEventAt e.node e.event
  pub addressed : IsFor e.node e.event
  pub step : IsStepBy {S = λ _. AnyNode} (any_table cfg) past e

-- the merge of journals of such steps is a run, where each delivered message was sent with a smaller stamp
abbrev pub NodesMakeRuns : Config → Type 0
NodesMakeRuns cfg =
    (journals : List OwnSteps) (history : List HistoryEntry) → AllByRecursion IsJournal journals → InEach (IsNodeStep cfg) journals
    → DeliveriesAreSent journals → IsMergeOf journals history → IsRun cfg history
