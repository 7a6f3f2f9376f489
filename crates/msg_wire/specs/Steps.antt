-- What a step may take at a node, and what is said of all that a step gives.
use Rattle.std.specs.Prelude.{ℕ, ◌≤◌, List, [], length, IsTrue}
use Rattle.std.specs.List.{AllByRecursion}
use Rattle.msg_wire.specs.Names.{NodeId, Message, Item, Event, Step}
use Rattle.msg_wire.specs.Names.events
use Rattle.msg_wire.specs.Nodes.{is_client, is_sequencer}
use Rattle.msg_wire.specs.Valid.{IsValidMessage, AreValidItems}

-- a step that gives nothing
abbrev pub empty_step : Step
empty_step = record { stable = []; sends = []; marks = [] }

-- a body is given to clients alone, a command to sequencers alone
abbrev pub IsEventAt : NodeId → Event → Type 0
IsEventAt node (events.Submit by body) = IsTrue (is_client node)
IsEventAt node (events.Command command) = IsTrue (is_sequencer node)
IsEventAt node (events.Deliver message) = Unit {0}
IsEventAt node events.Tick = Unit {0}
IsEventAt node events.Restart = Unit {0}

abbrev pub AreValidMessages : List Message → Type 0
AreValidMessages = AllByRecursion IsValidMessage

-- each item and each message of a step is valid
pub record IsValidStep (step : Step) : Type 0 where
  pub stable : AreValidItems step.stable
  pub sends : AreValidMessages step.sends

-- a vault entry: one valid item or more
pub record IsVaultEntry (items : List Item) : Type 0 where
  pub some : 1 ≤ length items
  pub each : AreValidItems items
