-- Frames and the steps that they come from.
use Rattle.std.specs.Prelude.{◌≡◌, ◌⊎◌, ◌<◌, List, map, Contains}
use Rattle.std.specs.List.{AllByRecursion}
use Rattle.link_faults.specs.Faults.{cut_frame, held_frames}
use Rattle.node_links.specs.declared.frame.Frame.{Frame}
use Rattle.msg_wire.specs.Messages.{message_spelling}
use Rattle.msg_wire.specs.Valid.{IsValidMessage}
use Rattle.net_model.specs.declared.journal.Stamped.{Stamped}
use Rattle.net_model.specs.Journals.{OwnSteps, all_steps}
use Rattle.net_model.specs.Names.{Message}
use Rattle.net_model.specs.Names.events
use Rattle.net_model.specs.Sources.{DeliveriesAreSent}
use Rattle.node_actor.specs.Lanes.{Lane, frame_of}

-- a frame carries a message of one of these steps, whole or without its last byte, and the step's stamp
pub record IsOfStep (steps : List Stamped) (f : Frame) : Type 0 where
  pub by : Stamped
  pub there : Contains steps by
  pub message : Message
  pub valid : IsValidMessage message
  pub sends : Contains by.entry.sends message
  pub carried : (f ≡ frame_of by.stamp message) ⊎ (f ≡ cut_frame (frame_of by.stamp message))

-- it holds of each frame that was queued on a link, and of the one that is held
abbrev pub OnLane : (Frame → Type 0) → Lane → Type 0
OnLane P l = AllByRecursion P l.queued × AllByRecursion P (held_frames l.faults.held)

-- the links from a node carry what its steps sent, and nothing else
abbrev pub CarrySteps : List Stamped → List Lane → Type 0
CarrySteps steps = AllByRecursion (OnLane (IsOfStep steps))

-- ---- several nodes

-- the message that a step took came in one of these frames, whole, and with a smaller stamp
pub record CameIn (frames : List Frame) (x : Stamped) (message : Message) : Type 0 where
  pub frame : Frame
  pub there : Contains frames frame
  pub below : frame.stamp < x.stamp
  pub valid : IsValidMessage message
  pub whole : frame.bytes ≡ message_spelling message

-- a node's steps, the frames that it received, and those that were queued for it at the other nodes
pub record NodeSteps : Type 0 where
  pub own : OwnSteps
  pub received : List Frame

abbrev pub own_steps : List NodeSteps → List OwnSteps
own_steps = map (λ (n : NodeSteps). n.own)

-- each delivery of a step came in a frame that its node received
abbrev pub TookReceived : NodeSteps → Type 0
TookReceived n = (x : Stamped) (message : Message) → Contains n.own.steps x → x.entry.event ≡ events.Deliver message → CameIn n.received x message

-- each frame that a node received is of a step of one of the nodes
abbrev pub ReceivedOfSteps : List OwnSteps → NodeSteps → Type 0
ReceivedOfSteps all n = (f : Frame) → Contains n.received f → IsOfStep (all_steps all) f

-- where each node took what it received, and received what steps of the nodes sent, each delivery was sent with a smaller stamp
abbrev pub ReceivedMeansSent : Type 0
ReceivedMeansSent =
    (all : List NodeSteps) → AllByRecursion TookReceived all → AllByRecursion (ReceivedOfSteps (own_steps all)) all → DeliveriesAreSent (own_steps all)
