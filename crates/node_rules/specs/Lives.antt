-- A node's life: the events that it took, the newest first; and two laws of all lives of a kind of node.
use Rattle.std.specs.Prelude.{◌≡◌, List, [], ◌∷◌, ◌++◌}
use Rattle.std.specs.List.{AllByRecursion}
use Rattle.msg_wire.specs.Valid.{IsValidConfig, IsNodeOf, IsValidEvent}
use Rattle.msg_wire.specs.Steps.{IsValidStep}
use Rattle.node_rules.specs.Names.{NodeId, Config, Event, Item}
use Rattle.node_rules.specs.Nodes.{Node}
use Rattle.node_rules.specs.Turns.{Turn, step_of}

-- what a node has stored in all its steps, and what has become of it
pub record Life (S : Type 0) : Type 0 where
  pub stored : List Item
  pub node : Node S

-- one turn more
abbrev pub lived_on : {S : Type 0} → Life S → Turn S → Life S
lived_on life turn = record { stored = life.stored ++ turn.stable; node = turn.state }

-- after events, from a node that has stored nothing yet
abbrev pub life_of : {S : Type 0} → (Node S → Event → Turn S) → Node S → List Event → Life S
life_of step fresh [] = record { stored = []; node = fresh }
life_of step fresh (event ∷ events) = lived_on (life_of step fresh events) (step (life_of step fresh events).node event)

-- a restart in place leaves what the stored items alone give
abbrev pub RestartIsTheItems : {S : Type 0} → (Node S → Event → Turn S) → (Config → NodeId → Node S) → (Node S → Node S) → (Config → NodeId → List Item → Node S) → Type 0
RestartIsTheItems step fresh reset restart =
    (cfg : Config) (me : NodeId) (events : List Event) → IsValidConfig cfg → IsNodeOf cfg me → AllByRecursion IsValidEvent events
    → reset (life_of step (fresh cfg me) events).node ≡ restart cfg me (life_of step (fresh cfg me) events).stored

-- what a step stores and sends is valid
abbrev pub StepsAreValid : {S : Type 0} → (Node S → Event → Turn S) → (Config → NodeId → Node S) → Type 0
StepsAreValid step fresh =
    (cfg : Config) (me : NodeId) (events : List Event) (event : Event) → IsValidConfig cfg → IsNodeOf cfg me → AllByRecursion IsValidEvent events
    → IsValidEvent event → IsValidStep (step_of (step (life_of step (fresh cfg me) events).node event))
