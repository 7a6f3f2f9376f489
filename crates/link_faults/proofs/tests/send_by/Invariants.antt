use Rattle.std.proofs.Common.{◌≡◌}
use Rattle.link_faults.proofs.tests.send_by.Given as goal

abbrev pub invariant-loop-stamp : goal.invariant-loop-stamp
invariant-loop-stamp l = l.out.link ≡ l.initial.out.link
