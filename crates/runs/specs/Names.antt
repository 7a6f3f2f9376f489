-- The types that runs and laws speak of, and their variants: import from here.
pub use Rattle.node_rules.specs.Names.{NodeId, Side, Entry, Record, Config, Message, What, Item, Event, Mark, Step}
pub use Rattle.node_rules.specs.Names.nodes
pub use Rattle.node_rules.specs.Names.sides
pub use Rattle.node_rules.specs.Names.entries
pub use Rattle.node_rules.specs.Names.records
pub use Rattle.node_rules.specs.Names.whats
pub use Rattle.msg_wire.specs.declared.input.Input.{Input}
pub use Rattle.msg_wire.specs.declared.input.Input.TheVariants as inputs
pub use Rattle.node_rules.specs.Names.items
pub use Rattle.node_rules.specs.Names.events
pub use Rattle.node_rules.specs.Names.commands
pub use Rattle.node_rules.specs.Names.marks
pub use Rattle.net_model.specs.declared.history.HistoryEntry.{HistoryEntry}
