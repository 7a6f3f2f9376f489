use Rattle.cluster_users.specs.Reading.{Reads}
use Rattle.cluster_users.proofs.reader.ReaderTakesTurnsEnvironment.take_turns.Given as goal

abbrev pub invariant-loop-turn : goal.invariant-loop-turn
invariant-loop-turn g l = Reads l.turn l.fn.self l.self
