-- Nodes of any kind, by the tables of the four kinds.
use Rattle.std.specs.Prelude.{Bool, false, List, Option, None, Some}
use Rattle.app_law.specs.AnyApps.{any_shown}
use Rattle.net_model.specs.declared.viewed.View.{View}
use Rattle.net_model.specs.Pasts.{Past}
use Rattle.node_rules.specs.Nodes.{Node, Core}
use Rattle.node_rules.specs.Turns.{step_of}
use Rattle.seq_node.specs.Steps.{sequencer_step}
use Rattle.shard_node.specs.Steps.{replica_step}
use Rattle.client_node.specs.Steps.{client_step}
use Rattle.consumer_node.specs.Apps.{any_meaning}
use Rattle.consumer_node.specs.States.{applied_of, app_state}
use Rattle.consumer_node.specs.Steps.{consumer_step}
use Rattle.world.specs.declared.any_node.AnyNode.{AnyNode}
use Rattle.world.specs.declared.any_node.AnyNode.TheVariants as any
use Rattle.runs.specs.Names.{NodeId, Config, Item, Event, Step}
use Rattle.runs.specs.Names.nodes
use Rattle.runs.specs.Kinds.{sequencer_table, replica_table, client_table, consumer_table, sequencer_after, replica_after, client_after, consumer_after}

-- a node that is not spent
abbrev pub ready : {S : Type 0} → Node S → Core S
ready n = record { node = n; spent = false }

-- at its start
abbrev pub fresh_any : Config → NodeId → AnyNode
fresh_any cfg (nodes.Seq number) = any.Seq (ready (sequencer_table cfg (nodes.Seq number)).fresh)
fresh_any cfg (nodes.Shard shard side) = any.Shard (ready (replica_table cfg (nodes.Shard shard side)).fresh)
fresh_any cfg (nodes.Client number) = any.Client (ready (client_table cfg (nodes.Client number)).fresh)
fresh_any cfg (nodes.Consumer number) = any.Consumer (ready (consumer_table cfg (nodes.Consumer number)).fresh)

-- as the items of its vault alone give it
abbrev pub restarted_any : Config → NodeId → List Item → AnyNode
restarted_any cfg (nodes.Seq number) stored = any.Seq (ready ((sequencer_table cfg (nodes.Seq number)).restart stored))
restarted_any cfg (nodes.Shard shard side) stored = any.Shard (ready ((replica_table cfg (nodes.Shard shard side)).restart stored))
restarted_any cfg (nodes.Client number) stored = any.Client (ready ((client_table cfg (nodes.Client number)).restart stored))
restarted_any cfg (nodes.Consumer number) stored = any.Consumer (ready ((consumer_table cfg (nodes.Consumer number)).restart stored))

-- what a step stores, sends and shows
abbrev pub gives_any : AnyNode → Event → Step
gives_any (any.Seq core) event = step_of (sequencer_step core.node event)
gives_any (any.Shard core) event = step_of (replica_step core.node event)
gives_any (any.Client core) event = step_of (client_step core.node event)
gives_any (any.Consumer core) event = step_of (consumer_step any_meaning core.node event)

-- and what it leaves
abbrev pub leaves_any : AnyNode → Event → AnyNode
leaves_any (any.Seq core) event = any.Seq (ready (sequencer_step core.node event).state)
leaves_any (any.Shard core) event = any.Shard (ready (replica_step core.node event).state)
leaves_any (any.Client core) event = any.Client (ready (client_step core.node event).state)
leaves_any (any.Consumer core) event = any.Consumer (ready (consumer_step any_meaning core.node event).state)

abbrev pub is_spent_any : AnyNode → Bool
is_spent_any (any.Seq core) = core.spent
is_spent_any (any.Shard core) = core.spent
is_spent_any (any.Client core) = core.spent
is_spent_any (any.Consumer core) = core.spent

-- what a consumer shows
abbrev pub shows_any : AnyNode → Option View
shows_any (any.Seq core) = None
shows_any (any.Shard core) = None
shows_any (any.Client core) = None
shows_any (any.Consumer core) = Some (record {
  applied = applied_of core.node.own;
  confirmed = core.node.own.confirmed;
  shown = any_shown (app_state any_meaning core.node.own);
})

-- what the entries of a past leave of a node
abbrev pub node_after : Config → Past → NodeId → AnyNode
node_after cfg past (nodes.Seq number) = any.Seq (ready (sequencer_after cfg number past))
node_after cfg past (nodes.Shard shard side) = any.Shard (ready (replica_after cfg shard side past))
node_after cfg past (nodes.Client number) = any.Client (ready (client_after cfg number past))
node_after cfg past (nodes.Consumer number) = any.Consumer (ready (consumer_after cfg number past))
