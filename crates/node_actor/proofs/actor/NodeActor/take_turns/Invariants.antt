use Rattle.node_actor.specs.Actors.{Moved}
use Rattle.node_actor.specs.Turns.{AreTurns, TookSteps}
use Rattle.node_actor.proofs.actor.NodeActor.take_turns.Given as goal

abbrev pub invariant-loop-turn : goal.invariant-loop-turn
invariant-loop-turn g l = Moved g.N.NodeModel g.D.Disk l.fn.self l.self × TookSteps (AreTurns l.turns l.turn) l.fn.self l.self
