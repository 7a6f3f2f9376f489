use Rattle.std.proofs.Common.{◌≡◌}
use Rattle.node_links.proofs.tests.queue_all.Given as goal

abbrev pub invariant-loop-stamp : goal.invariant-loop-stamp
invariant-loop-stamp l = l.out.link ≡ l.initial.out.link
