-- Nodes at their seats make a run: their own steps are steps of the tables of all kinds, and what they took was sent.
use Rattle.std.proofs.Common.{List, [], ◌∷◌}
use Rattle.spec_base.specs.declared.disk.Disk.{Ghosts as DiskRules}
use Rattle.net_model.specs.declared.model.NodeModel.{Ghosts as NodeRules}
use Rattle.net_model.specs.Pasts.{Past, Throughout}
use Rattle.net_model.specs.Journals.{OwnSteps}
use Rattle.net_model.specs.Merges.{past_in}
use Rattle.net_model.specs.Sources.{InEach}
use Rattle.node_actor.specs.Steps.{IsOwnStep, IsFor as IsForActor}
use Rattle.node_seats.proofs.Closing.{closing}
use Rattle.runs.specs.Names.{NodeId, Config, Event, HistoryEntry}
use Rattle.runs.specs.Names.events
use Rattle.runs.specs.Journals.{IsFor}
use Rattle.world.specs.declared.any_node.AnyNode.{AnyNode}
use Rattle.world.specs.AnyNodes.{fresh_any, restarted_any, gives_any, leaves_any, is_spent_any}
use Rattle.node_runs.specs.NodeRuns.{IsNodeStep}
use Rattle.node_runs.specs.SeatedRuns.{SeatedNodesMakeRuns}
use Rattle.node_runs.proofs.NodeRuns.{nodes_make_runs}

-- the rules of nodes of any kind
abbrev any_rules : NodeRules AnyNode
any_rules = record { fresh = fresh_any; restarted = restarted_any; gives = gives_any; leaves = leaves_any; is_spent = is_spent_any }

is_for : (node : NodeId) (event : Event) → IsForActor node event → IsFor node event
is_for node (events.Deliver message) addressed = addressed
is_for node (events.Submit by body) addressed = tt
is_for node events.Tick addressed = tt
is_for node events.Restart addressed = tt
is_for node (events.Command command) addressed = tt

node_step : (cfg : Config) (past : Past) (e : HistoryEntry) → IsOwnStep any_rules cfg past e → IsNodeStep cfg past e
node_step cfg past e own = record {
  within = own.within;
  valid = own.takes.valid;
  taken_there = own.takes.taken_there;
  addressed = is_for e.node e.event own.takes.addressed;
  step = record { sends = own.step.sends; shows = own.step.shows };
}

all_steps_own : (cfg : Config) (past : Past) → Throughout (IsOwnStep any_rules cfg) past → Throughout (IsNodeStep cfg) past
all_steps_own cfg [] own = tt
all_steps_own cfg (e ∷ past) own = (node_step cfg past e own.0, all_steps_own cfg past own.1)

in_each_own : (cfg : Config) (journals : List OwnSteps) → InEach (IsOwnStep any_rules cfg) journals → InEach (IsNodeStep cfg) journals
in_each_own cfg [] own = tt
in_each_own cfg (j ∷ journals) own = (all_steps_own cfg (past_in j.steps) own.0, in_each_own cfg journals own.1)

pub seated_make_runs : {D : Type 0} → (disk : DiskRules D) → SeatedNodesMakeRuns any_rules disk
seated_make_runs disk cfg seats actors history are seated going settled journals merge =
    let end = closing any_rules disk cfg seats actors are seated going settled in
    nodes_make_runs cfg _ history journals (in_each_own cfg _ end.1) end.0 merge
