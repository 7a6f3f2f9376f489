-- The types that pasts and step tables speak of, and their variants: import from here.
pub use Rattle.msg_wire.specs.declared.message.Message.{Message}
pub use Rattle.msg_wire.specs.declared.item.Item.{Item}
pub use Rattle.msg_wire.specs.Names.{NodeId}
pub use Rattle.msg_wire.specs.Names.nodes
pub use Rattle.msg_wire.specs.declared.event.Event.{Event}
pub use Rattle.msg_wire.specs.declared.event.Event.TheVariants as events
pub use Rattle.msg_wire.specs.declared.mark.Mark.{Mark}
pub use Rattle.msg_wire.specs.declared.step.Step.{Step}
pub use Rattle.net_model.specs.declared.history.HistoryEntry.{HistoryEntry}
