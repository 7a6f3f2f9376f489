use Rattle.std.proofs.Common.{◌≡◌}
use Rattle.node_links.proofs.tests.send.Given as goal

abbrev pub invariant-loop : goal.invariant-loop
invariant-loop g l = l.out.link ≡ l.initial.out.link
