-- The step table of a node as an argument, and what the entries of a past leave of the node.
use Rattle.std.specs.Prelude.{Bool, true, false, List, [], ◌∷◌, ◌++◌}
use Rattle.msg_wire.specs.Nodes.{same_node}
use Rattle.net_model.specs.Names.{NodeId, Item, Event, Step}
use Rattle.net_model.specs.Names.events
use Rattle.net_model.specs.Pasts.{Past}

-- what a node does: its state at the start, the state that a vault's items alone give, what a step stores, sends and
-- shows, and the state that it leaves
pub record StepTable (S : Type 0) : Type 0 where
  pub fresh : S
  pub restart : List Item → S
  pub gives : S → Event → Step
  pub leaves : S → Event → S

-- what a node has come to: the items of its vault, and its state
pub record Progress (S : Type 0) : Type 0 where
  pub stored : List Item
  pub state : S

-- a restart leaves what the items alone give
abbrev pub state_after : {S : Type 0} → StepTable S → Event → Progress S → S
state_after table events.Restart p = table.restart p.stored
state_after table event p = table.leaves p.state event

abbrev pub one_step : {S : Type 0} → StepTable S → Event → Progress S → Progress S
one_step table event p = record { stored = p.stored ++ (table.gives p.state event).stable; state = state_after table event p }

-- the steps of other nodes change nothing
abbrev pub step_if : {S : Type 0} → Bool → StepTable S → Event → Progress S → Progress S
step_if true table event p = one_step table event p
step_if false table event p = p

abbrev pub progress_of : {S : Type 0} → StepTable S → NodeId → Past → Progress S
progress_of table node [] = record { stored = []; state = table.fresh }
progress_of table node (e ∷ past) = step_if (same_node e.node node) table e.event (progress_of table node past)

-- a node's stable items so far, the oldest first
abbrev pub items_of : {S : Type 0} → StepTable S → NodeId → Past → List Item
items_of table node past = (progress_of table node past).stored

-- its state so far
abbrev pub state_of : {S : Type 0} → StepTable S → NodeId → Past → S
state_of table node past = (progress_of table node past).state
