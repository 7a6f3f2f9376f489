-- The types that step tables speak of, and their variants: import from here.
pub use Rattle.msg_wire.specs.Names.{NodeId, Side}
pub use Rattle.msg_wire.specs.Names.nodes
pub use Rattle.msg_wire.specs.Names.sides
pub use Rattle.msg_wire.specs.Names.{Row, Entry, Record, AppKind}
pub use Rattle.msg_wire.specs.Names.entries
pub use Rattle.msg_wire.specs.Names.records
pub use Rattle.msg_wire.specs.Names.apps
pub use Rattle.msg_wire.specs.declared.config.Config.{Config}
pub use Rattle.msg_wire.specs.declared.message.Message.{Message}
pub use Rattle.msg_wire.specs.declared.message.What.{What}
pub use Rattle.msg_wire.specs.declared.message.What.TheVariants as whats
pub use Rattle.msg_wire.specs.declared.item.Item.{Item}
pub use Rattle.msg_wire.specs.declared.event.Event.{Event}
pub use Rattle.msg_wire.specs.declared.event.Command.{Command}
pub use Rattle.msg_wire.specs.declared.mark.Mark.{Mark}
pub use Rattle.msg_wire.specs.declared.step.Step.{Step}
pub use Rattle.msg_wire.specs.declared.item.Item.TheVariants as items
pub use Rattle.msg_wire.specs.declared.event.Event.TheVariants as events
pub use Rattle.msg_wire.specs.declared.event.Command.TheVariants as commands
pub use Rattle.msg_wire.specs.declared.mark.Mark.TheVariants as marks
