-- What comes to a node on no link.
use Rattle.std.specs.Prelude.{◌≤◌, IsTrue}
use Rattle.msg_wire.specs.Nodes.{is_client, is_sequencer}
use Rattle.msg_wire.specs.Valid.{IsValidCommand}
use Rattle.net_model.specs.Names.{NodeId, Event}
use Rattle.net_model.specs.Names.events

-- an event that is no message, and that this node can take
abbrev pub ComesAlone : NodeId → Event → Type 0
ComesAlone node (events.Submit by body) = IsTrue (is_client node) × (by ≤ 7)
ComesAlone node (events.Deliver message) = ⊥
ComesAlone node events.Tick = Unit {0}
ComesAlone node events.Restart = Unit {0}
ComesAlone node (events.Command command) = IsTrue (is_sequencer node) × IsValidCommand command
