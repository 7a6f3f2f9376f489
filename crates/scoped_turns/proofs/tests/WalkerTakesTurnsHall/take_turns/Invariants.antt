use Rattle.std.proofs.Common.{◌≡◌}
use Rattle.scoped_turns.proofs.tests.WalkerTakesTurnsHall.take_turns.Given as goal

-- the walker has counted the turns
abbrev pub invariant-loop-turn : goal.invariant-loop-turn
invariant-loop-turn l = (l.self.number ≡ l.fn.self.number) × (l.self.steps ≡ l.turn)
