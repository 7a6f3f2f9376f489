-- The links from a node, with their faults, and what sends bring to them.
use Rattle.std.specs.Prelude.{ℕ, zero, suc, if◌then◌else◌, List, [], ◌∷◌, ◌++◌, map, Option, Some, None}
use Rattle.link_faults.specs.declared.plan.FaultPlan.{FaultPlan}
use Rattle.link_faults.specs.Faults.{Holding, held_frames, held_by, after_word, next_fate, what_is_queued}
use Rattle.node_links.specs.declared.frame.Frame.{Frame}
use Rattle.node_links.specs.Links.{LinkName, Sending, queued}
use Rattle.msg_wire.specs.Messages.{message_spelling}
use Rattle.msg_wire.specs.Nodes.{is_node_of}
use Rattle.net_model.specs.Names.{Message}
use Rattle.net_model.specs.declared.journal.Stamped.{Stamped}
use Rattle.msg_wire.specs.declared.config.Config.{Config}
use Rattle.node_order.specs.Places.{rank_of}

-- ---- one link

-- all that was queued on a link, and its faults
pub record Lane : Type 0 where
  pub queued : List Frame
  pub faults : Holding

-- what a frame makes of a link: with no plan it is queued once
abbrev pub passed : Option FaultPlan → Frame → Lane → Lane
passed None f l = record { queued = l.queued ++ f ∷ []; faults = l.faults }
passed (Some plan) f l = record {
  queued = l.queued ++ what_is_queued (next_fate plan l.faults) f l.faults.held;
  faults = record { words = after_word l.faults.words; held = held_by (next_fate plan l.faults) f };
}

-- the frame that is held is queued
abbrev pub released : Lane → Lane
released l = record { queued = l.queued ++ held_frames l.faults.held; faults = record { words = l.faults.words; held = None } }

-- ---- the links to all nodes, in their order

abbrev pub links_of : List Sending → List LinkName
links_of outs = map (λ (o : Sending). o.link) outs

abbrev pub lanes : List Sending → List Holding → List Lane
lanes [] faults = []
lanes (o ∷ outs) [] = []
lanes (o ∷ outs) (h ∷ faults) = record { queued = queued o; faults = h } ∷ lanes outs faults

-- the link at a place is changed
abbrev pub at_place : ℕ → (Lane → Lane) → List Lane → List Lane
at_place place change [] = []
at_place zero change (l ∷ ls) = change l ∷ ls
at_place (suc place) change (l ∷ ls) = l ∷ at_place place change ls

-- ---- sends

-- a message as it is sent by a step with this stamp
abbrev pub frame_of : ℕ → Message → Frame
frame_of stamp m = record { stamp = stamp; bytes = message_spelling m }

-- a message goes to the link of its node; one that is to no node of the cluster goes nowhere
abbrev pub send_message : Config → Option FaultPlan → ℕ → Message → List Lane → List Lane
send_message cfg plan stamp m ls = if is_node_of cfg m.to then at_place (rank_of cfg m.to) (passed plan (frame_of stamp m)) ls else ls

abbrev pub send_messages : Config → Option FaultPlan → ℕ → List Message → List Lane → List Lane
send_messages cfg plan stamp [] ls = ls
send_messages cfg plan stamp (m ∷ ms) ls = send_messages cfg plan stamp ms (send_message cfg plan stamp m ls)

-- what steps send, one after the other
abbrev pub send_steps : Config → Option FaultPlan → List Stamped → List Lane → List Lane
send_steps cfg plan [] ls = ls
send_steps cfg plan (x ∷ steps) ls = send_steps cfg plan steps (send_messages cfg plan x.stamp x.entry.sends ls)
