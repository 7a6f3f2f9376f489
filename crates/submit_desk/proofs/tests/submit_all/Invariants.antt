use Rattle.std.proofs.Common.{◌≡◌, true, length}
use Rattle.submit_desk.proofs.tests.submit_all.Given as goal

-- the pass has submitted as many as the loop has counted
abbrev pub invariant-loop-number : goal.invariant-loop-number
invariant-loop-number g l = (l.pass.desk ≡ l.desk.desk) × (l.pass.knows.submits ≡ true) × (l.pass.knows.by ≡ l.by) × (length l.pass.knows.put ≡ l.number)
