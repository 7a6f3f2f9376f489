use Rattle.std.proofs.Common.{◌≡◌}
use Rattle.node_links.proofs.tests.pull_all.Given as goal

abbrev pub invariant-loop-stamp : goal.invariant-loop-stamp
invariant-loop-stamp g l = l.into.link ≡ l.initial.into.link
