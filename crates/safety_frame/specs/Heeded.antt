-- In every run a message is sent in its sender's name, from a node of the cluster to another node, between the classes of its kind; so it
-- is heeded where it comes.
use Rattle.std.specs.Prelude.{◌≡◌, true, false, Contains}
use Rattle.std.specs.List.{AllByRecursion}
use Rattle.msg_wire.specs.Heeded.{goes_between, is_heeded}
use Rattle.msg_wire.specs.Nodes.{is_node_of, same_node}
use Rattle.net_model.specs.Pasts.{Past, Throughout, sent}
use Rattle.runs.specs.Names.{NodeId, Config, Message, Event}
use Rattle.runs.specs.Names.events
use Rattle.safety_frame.specs.EveryRun.{OfEveryRun}

pub record Goes (cfg : Config) (m : Message) : Type 0 where
  pub from_there : is_node_of cfg m.from ≡ true
  pub other : same_node m.from m.to ≡ false
  pub between : goes_between m.what m.from m.to ≡ true

abbrev pub IsHeeded : Config → NodeId → Event → Type 0
IsHeeded cfg node (events.Deliver m) = is_heeded cfg node m ≡ true
IsHeeded cfg node _ = Unit {0}

pub record AllHeeded (cfg : Config) (past : Past) : Type 0 where
  pub senders : Throughout (λ past e. AllByRecursion (λ (m : Message). m.from ≡ e.node) e.sends) past
  pub messages : (m : Message) → Contains (sent past) m → Goes cfg m
  pub entries : Throughout (λ past e. IsHeeded cfg e.node e.event) past

abbrev pub MessagesAreHeeded : Type 0
MessagesAreHeeded = OfEveryRun AllHeeded
