-- Nodes of any kind go by the tables of their kinds.
use Rattle.std.proofs.Common.{◌≡◌, Bool, true, false, List, [], ◌∷◌, ◌++◌, refl, ap, ◌∙◌}
use Rattle.msg_wire.specs.Nodes.{same_node}
use Rattle.net_model.specs.Pasts.{Past}
use Rattle.net_model.specs.Tables.{StepTable, Progress, progress_of, state_of, state_after, step_if}
use Rattle.net_model.specs.Journals.{OwnSteps}
use Rattle.net_model.specs.Merges.{past_in}
use Rattle.net_model.specs.Sources.{InEach}
use Rattle.net_model.proofs.Sources.{throughout_from}
use Rattle.node_rules.specs.Nodes.{Node}
use Rattle.seq_node.specs.States.{SequencerState}
use Rattle.shard_node.specs.States.{ReplicaState}
use Rattle.client_node.specs.States.{ClientState}
use Rattle.consumer_node.specs.States.{ConsumerState}
use Rattle.app_law.specs.declared.any_app.AnyApp.{AnyApp}
use Rattle.runs.specs.Names.{NodeId, Config, Item, Event, HistoryEntry, Step}
use Rattle.runs.specs.Names.nodes
use Rattle.runs.specs.Names.events
use Rattle.runs.specs.Kinds.{sequencer_table, replica_table, client_table, consumer_table, step_at}
use Rattle.runs.specs.Journals.{IsOwnStep}
use Rattle.runs.proofs.MergedJournals.{merge_is_run}
use Rattle.world.specs.declared.any_node.AnyNode.{AnyNode}
use Rattle.world.specs.declared.any_node.AnyNode.TheVariants as any
use Rattle.world.specs.AnyNodes.{ready, gives_any, node_after}
use Rattle.node_runs.specs.NodeRuns.{any_table, IsNodeStep, NodesMakeRuns}
use Rattle.world.proofs.After.{gives_after}

-- a table that does to images what another does
record GoesAs {S T : Type 0} (t : StepTable S) (u : StepTable T) (f : S → T) : Type 0 where
  fresh : u.fresh ≡ f t.fresh
  restart : (items : List Item) → u.restart items ≡ f (t.restart items)
  gives : (s : S) (event : Event) → u.gives (f s) event ≡ t.gives s event
  leaves : (s : S) (event : Event) → u.leaves (f s) event ≡ f (t.leaves s event)

abbrev image : {S T : Type 0} → (S → T) → Progress S → Progress T
image f p = record { stored = p.stored; state = f p.state }

abbrev progress_with : {T : Type 0} → List Item → T → Progress T
progress_with stored state = record { stored = stored; state = state }

left_as : {S T : Type 0} → (t : StepTable S) (u : StepTable T) (f : S → T) → GoesAs t u f → (event : Event) (p : Progress S)
    → state_after u event (image f p) ≡ f (state_after t event p)
left_as t u f goes events.Restart p = goes.restart p.stored
left_as t u f goes (events.Submit by body) p = goes.leaves p.state (events.Submit by body)
left_as t u f goes (events.Deliver message) p = goes.leaves p.state (events.Deliver message)
left_as t u f goes events.Tick p = goes.leaves p.state events.Tick
left_as t u f goes (events.Command command) p = goes.leaves p.state (events.Command command)

step_as : {S T : Type 0} → (t : StepTable S) (u : StepTable T) (f : S → T) → GoesAs t u f → (own : Bool) (event : Event) (p : Progress S)
    → step_if own u event (image f p) ≡ image f (step_if own t event p)
step_as t u f goes true event p =
    ap (λ (s : Step). progress_with (p.stored ++ s.stable) (state_after u event (image f p))) (goes.gives p.state event)
    ∙ ap (progress_with (p.stored ++ (t.gives p.state event).stable)) (left_as t u f goes event p)
step_as t u f goes false event p = refl

progress_as : {S T : Type 0} → (t : StepTable S) (u : StepTable T) (f : S → T) → GoesAs t u f → (node : NodeId) (past : Past)
    → progress_of u node past ≡ image f (progress_of t node past)
progress_as t u f goes node [] = ap (progress_with []) goes.fresh
progress_as t u f goes node (e ∷ past) =
    ap (step_if (same_node e.node node) u e.event) (progress_as t u f goes node past)
    ∙ step_as t u f goes (same_node e.node node) e.event (progress_of t node past)

-- what the entries of a past leave of a node, by the one table
any_after : (cfg : Config) (node : NodeId) (past : Past) → state_of (any_table cfg node) node past ≡ node_after cfg past node
any_after cfg (nodes.Seq n) past =
    let node : NodeId = nodes.Seq n in
    ap (λ (p : Progress AnyNode). p.state) (progress_as (sequencer_table cfg node) (any_table cfg node) (λ (s : Node SequencerState). any.Seq (ready s))
    (record { fresh = refl; restart = λ items. refl; gives = λ s event. refl; leaves = λ s event. refl }) node past)
any_after cfg (nodes.Shard n side) past =
    let node : NodeId = nodes.Shard n side in
    ap (λ (p : Progress AnyNode). p.state) (progress_as (replica_table cfg node) (any_table cfg node) (λ (s : Node ReplicaState). any.Shard (ready s))
    (record { fresh = refl; restart = λ items. refl; gives = λ s event. refl; leaves = λ s event. refl }) node past)
any_after cfg (nodes.Client n) past =
    let node : NodeId = nodes.Client n in
    ap (λ (p : Progress AnyNode). p.state) (progress_as (client_table cfg node) (any_table cfg node) (λ (s : Node ClientState). any.Client (ready s))
    (record { fresh = refl; restart = λ items. refl; gives = λ s event. refl; leaves = λ s event. refl }) node past)
any_after cfg (nodes.Consumer n) past =
    let node : NodeId = nodes.Consumer n in
    ap (λ (p : Progress AnyNode). p.state) (progress_as (consumer_table cfg node) (any_table cfg node)
    (λ (s : Node (ConsumerState AnyApp)). any.Consumer (ready s))
    (record { fresh = refl; restart = λ items. refl; gives = λ s event. refl; leaves = λ s event. refl }) node past)

-- and what it gives
any_gives : (cfg : Config) (node : NodeId) (past : Past) (event : Event)
    → gives_any (state_of (any_table cfg node) node past) event ≡ step_at cfg node past event
any_gives cfg node past event = ap (λ n. gives_any n event) (any_after cfg node past) ∙ gives_after cfg node past event

own_by_kind : (cfg : Config) (past : Past) (e : HistoryEntry) → IsNodeStep cfg past e → IsOwnStep cfg past e
own_by_kind cfg past e is = record {
  within = is.within;
  valid = is.valid;
  taken_there = is.taken_there;
  addressed = is.addressed;
  sends = is.step.sends ∙ ap (λ (s : Step). s.sends) (any_gives cfg e.node past e.event);
  shows = is.step.shows ∙ ap (λ (s : Step). s.marks) (any_gives cfg e.node past e.event);
}

each_by_kind : (cfg : Config) (journals : List OwnSteps) → InEach (IsNodeStep cfg) journals → InEach (IsOwnStep cfg) journals
each_by_kind cfg [] own = tt
each_by_kind cfg (j ∷ journals) own =
    (throughout_from (IsNodeStep cfg) (IsOwnStep cfg) (own_by_kind cfg) (past_in j.steps) own.0, each_by_kind cfg journals own.1)

pub nodes_make_runs : (cfg : Config) → NodesMakeRuns cfg
nodes_make_runs cfg journals history are own sent merge = merge_is_run cfg journals history are (each_by_kind cfg journals own) sent merge
