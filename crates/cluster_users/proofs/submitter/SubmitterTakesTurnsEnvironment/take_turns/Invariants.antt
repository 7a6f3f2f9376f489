use Rattle.std.proofs.Common.{◌≡◌}
use Rattle.cluster_users.specs.Submitting.{Submits}
use Rattle.cluster_users.proofs.submitter.SubmitterTakesTurnsEnvironment.take_turns.Given as goal

abbrev pub invariant-loop-turn : goal.invariant-loop-turn
invariant-loop-turn g l = (l.self.desk ≡ l.desk.desk) × Submits l.turn l.fn.self l.self
