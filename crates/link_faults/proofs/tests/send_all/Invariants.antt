use Rattle.std.proofs.Common.{◌≡◌}
use Rattle.link_faults.proofs.tests.send_all.Given as goal

abbrev pub invariant-loop-letter : goal.invariant-loop-letter
invariant-loop-letter l = l.out.link ≡ l.initial.out.link
