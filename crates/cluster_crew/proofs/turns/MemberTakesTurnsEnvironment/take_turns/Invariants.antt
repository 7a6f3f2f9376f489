use Rattle.cluster_crew.specs.Posts.{Stays}
use Rattle.cluster_crew.proofs.turns.MemberTakesTurnsEnvironment.take_turns.Given as goal

abbrev pub invariant-loop-turn : goal.invariant-loop-turn
invariant-loop-turn g l = Stays g.N.NodeModel g.D.Disk l.fn.self l.self
