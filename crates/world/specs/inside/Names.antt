-- The names that the proofs of this crate speak in: each with the file that defines it.
pub use Rattle.msg_wire.specs.Nodes.{nodes_of, same_node}
pub use Rattle.msg_wire.specs.Valid.{IsNodeOf, IsValidConfig}
pub use Rattle.net_model.specs.Pasts.{Past, sent}
pub use Rattle.node_rules.specs.Nodes.{Node}
pub use Rattle.seq_node.specs.Steps.{sequencer_step}
pub use Rattle.shard_node.specs.Steps.{replica_step}
pub use Rattle.client_node.specs.Steps.{client_step}
pub use Rattle.consumer_node.specs.Apps.{any_meaning}
pub use Rattle.consumer_node.specs.Steps.{consumer_step}
pub use Rattle.runs.specs.Kinds.{step_at}
pub use Rattle.runs.specs.Names.{Config, Event, HistoryEntry, Input, Item, Message, NodeId}
pub use Rattle.runs.specs.Runs.{IsPastOf}
pub use Rattle.world.specs.AnyNodes.{leaves_any, node_after}
pub use Rattle.world.specs.inside.Kept.{AreParts, shown_by}
pub use Rattle.node_order.specs.Places.{rank_of}
pub use Rattle.world.specs.inside.PlayerSteps.{PlayerState, happens, ticks_next}
pub use Rattle.world.specs.Playing.{entry_made}
pub use Rattle.world.specs.declared.errors.PlayError.{PlayError}
pub use Rattle.world.specs.declared.player.Parts.{Parts}
