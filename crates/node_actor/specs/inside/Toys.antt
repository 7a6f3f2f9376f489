-- A node for tests: at each tick it stores one item and asks the first sequencer for the first entry; it counts what its vault gave.
use Rattle.std.specs.Prelude.{[], ◌∷◌}
use Rattle.net_model.specs.Names.nodes
use Rattle.msg_wire.specs.declared.message.What.TheVariants as whats
use Rattle.msg_wire.specs.declared.item.Item.TheVariants as items
use Rattle.msg_wire.specs.Steps.{empty_step}
use Rattle.net_model.specs.Names.{Message, Event, Step}
use Rattle.net_model.specs.Names.events

abbrev pub question : Message
question = record { from = nodes.Client 0; to = nodes.Seq 0; what = whats.Learn 0 }

abbrev pub toy_gives : Event → Step
toy_gives events.Tick = record { stable = items.Acked ∷ []; sends = question ∷ []; marks = [] }
toy_gives events.Restart = empty_step
toy_gives (events.Submit by body) = empty_step
toy_gives (events.Deliver message) = empty_step
toy_gives (events.Command command) = empty_step
