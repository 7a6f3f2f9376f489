use Rattle.std.proofs.Common.{◌≡◌}
use Rattle.node_links.proofs.tests.receive.Given as goal

abbrev pub invariant-loop : goal.invariant-loop
invariant-loop g l = l.into.link ≡ l.initial.into.link
