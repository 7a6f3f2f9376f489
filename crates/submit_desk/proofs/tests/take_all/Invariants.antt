use Rattle.std.proofs.Common.{◌≡◌, true}
use Rattle.submit_desk.proofs.tests.take_all.Given as goal

abbrev pub invariant-loop : goal.invariant-loop
invariant-loop g l = (l.pass.desk ≡ l.desk.desk) × (l.pass.knows.takes ≡ true)
