-- What is asked of an entry.
use Rattle.std.specs.Prelude.{Option, Some, None}
use Rattle.net_model.specs.Names.{Message, Event}
use Rattle.net_model.specs.Names.events

-- the message that an event delivers
abbrev pub message_in : Event → Option Message
message_in (events.Deliver message) = Some message
message_in _ = None
