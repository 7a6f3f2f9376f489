-- What the turns of an episode make: which of them are ticks, and the steps that a node takes in them.
use Rattle.std.specs.Prelude.{◌≡◌, ◌⊎◌, ℕ, zero, suc, ◌+◌, ◌%◌, ◌==◌, ◌||◌, Bool, true, false, List, [], ◌∷◌, ◌++◌, None}
use Rattle.net_model.specs.declared.journal.Stamped.{Stamped}
use Rattle.net_model.specs.Names.{Message, Event}
use Rattle.net_model.specs.Names.events
use Rattle.node_actor.specs.declared.actor.NodeActor.{NodeActor}
use Rattle.node_actor.specs.declared.taken.Taken.{Taken}
use Rattle.node_actor.specs.declared.taken.Taken.TheVariants as takes
use Rattle.node_actor.specs.Cores.{steps_of}

-- in an episode of so many turns each sixteenth is a tick, and the last
abbrev pub is_tick_due : ℕ → ℕ → Bool
is_tick_due turn turns = (turn % 16 == 15) || (turn + 1 == turns)

-- one step, of this event
abbrev pub IsStepOf : Event → List Stamped → Type 0
IsStepOf event steps = (step : Stamped) × (steps ≡ step ∷ []) × (step.entry.event ≡ event)

-- the steps of a turn: a tick where one is due, else that of a message, or none
abbrev pub IsTurn : Bool → List Stamped → Type 0
IsTurn true steps = IsStepOf events.Tick steps
IsTurn false steps = (steps ≡ []) ⊎ ((message : Message) × IsStepOf (events.Deliver message) steps)

-- the steps that come of a frame: one of its message, or none
abbrev pub AreStepsOf : Taken → List Stamped → Type 0
AreStepsOf takes.Input steps = (message : Message) × IsStepOf (events.Deliver message) steps
AreStepsOf takes.NoInput steps = steps ≡ []
AreStepsOf takes.Nothing steps = steps ≡ []

-- the steps of so many turns from the first on, in an episode of so many
abbrev pub AreTurns : ℕ → ℕ → List Stamped → Type 0
AreTurns turns zero steps = steps ≡ []
AreTurns turns (suc taken) steps =
    (earlier : List Stamped) × (last : List Stamped) × (steps ≡ earlier ++ last) × AreTurns turns taken earlier × IsTurn (is_tick_due taken turns) last

module _ {N D : Type 0} where
  -- where it isn't stopped, the steps that it took are such
  abbrev pub TookSteps : (List Stamped → Type 0) → NodeActor N D → NodeActor N D → Type 0
  TookSteps P before after = after.stopped ≡ None → (more : List Stamped) × (steps_of after.core ≡ steps_of before.core ++ more) × P more
