-- The links to a node: what was pulled of them, and where the messages that a node took came from.
use Rattle.std.specs.Prelude.{◌≡◌, ℕ, ◌<◌, List, map, length, get_or, Contains}
use Rattle.std.specs.List.{AllByRecursion}
use Rattle.node_links.specs.declared.frame.Frame.{Frame}
use Rattle.node_links.specs.Links.{LinkName, Receiving}
use Rattle.msg_wire.specs.declared.config.Config.{Config}
use Rattle.msg_wire.specs.Messages.{message_spelling}
use Rattle.net_model.specs.declared.journal.Stamped.{Stamped}
use Rattle.net_model.specs.Names.{Message}
use Rattle.net_model.specs.Names.events
use Rattle.node_order.specs.Places.{rank_of}

abbrev pub links_to : List Receiving → List LinkName
links_to ins = map (λ (i : Receiving). i.link) ins

-- a message came in a frame that was pulled of the link from its sender, with a stamp below this one
pub record CameBy (cfg : Config) (ins : List Receiving) (message : Message) (stamp : ℕ) : Type 0 where
  pub link : Receiving
  pub frame : Frame
  pub within : rank_of cfg message.from < length ins
  pub is_there : get_or ins (rank_of cfg message.from) link ≡ link
  pub received : Contains link.received frame
  pub below : frame.stamp < stamp
  pub spelled : frame.bytes ≡ message_spelling message

-- each message that the steps took came so
abbrev pub AreTaken : Config → List Receiving → List Stamped → Type 0
AreTaken cfg ins = AllByRecursion (λ (x : Stamped). (message : Message) → x.entry.event ≡ events.Deliver message → CameBy cfg ins message x.stamp)
