use Rattle.std.proofs.Common.{◌≡◌, true}
use Rattle.cluster_users.proofs.tests.submitting.take_some.Given as goal

-- the pass still takes from the desk
abbrev pub invariant-loop : goal.invariant-loop
invariant-loop g l = (l.taking.desk ≡ l.desk.desk) × (l.taking.knows.takes ≡ true)
