-- The names that the proofs of this crate speak in: each with the file that defines it.
pub use Rattle.quota_table.specs.Entries.{IsValidEntry}
pub use Rattle.fix_ante.specs.declared.spots.Owner.{Owner}
pub use Rattle.record_codec.specs.Records.{IsValidRecord}
pub use Rattle.record_codec.specs.declared.app_kind.AppKind.{AppKind}
pub use Rattle.cut_core.specs.Agreements.{Agreement, agreement_from, count_of}
pub use Rattle.cut_core.specs.Effects.{effect_of}
pub use Rattle.cut_core.specs.Map.{end_among, gone_end, located, map_of, mapped}
pub use Rattle.cut_core.specs.MapsAgree.{IsBelowFirst}
pub use Rattle.cut_core.specs.declared.effects.Effect.{Effect}
pub use Rattle.cut_core.specs.declared.effects.Effect.TheVariants.{Removed}
pub use Rattle.cut_core.specs.declared.gone.Gone.{Gone}
pub use Rattle.msg_wire.specs.Nodes.{number_of}
pub use Rattle.msg_wire.specs.Valid.{AreValidItems, IsNodeOf, IsValidConfig, IsValidEvent, IsValidItem}
pub use Rattle.app_law.specs.Folds.{fold_of}
pub use Rattle.app_law.specs.Positions.{IsPast, below, from_on}
pub use Rattle.spec_delivery.specs.Buffers.{lane_of, with_floor, with_record, without_records}
pub use Rattle.spec_delivery.specs.Lanes.{LaneState, after_put, closed, emptied, fresh_lane, held_at, put_answer, raised}
pub use Rattle.node_rules.specs.Names.{Config, Event, Mark, NodeId, What}
pub use Rattle.node_rules.specs.Nodes.{Base, Node, agreed_by, first_window, has_slot, knowing, with_own}
pub use Rattle.node_rules.specs.Rules.{learned}
pub use Rattle.node_rules.specs.Sound.{IsBase}
pub use Rattle.node_rules.specs.Turns.{Turn, agreed, count_known, own_of, put_own, send, show, started}
pub use Rattle.consumer_node.specs.Apps.{Meaning}
pub use Rattle.consumer_node.specs.inside.Confirming.{confirm_count, confirm_first}
pub use Rattle.consumer_node.specs.inside.Kept.{StandFrom}
pub use Rattle.consumer_node.specs.Restart.{closed_by, fit, fresh_node, reset_of}
pub use Rattle.consumer_node.specs.Rules.{close, close_gone}
pub use Rattle.consumer_node.specs.Sound.{IsConsumer, IsLane, IsOwn, held_for}
pub use Rattle.consumer_node.specs.Speculation.{apply, held_of, with_confirmed}
pub use Rattle.consumer_node.specs.States.{ConsumerState, applied_of, with_lanes, with_pending}
pub use Rattle.consumer_node.specs.Steps.{consumer_step, handle}
