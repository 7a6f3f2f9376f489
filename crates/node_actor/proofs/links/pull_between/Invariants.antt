use Rattle.std.proofs.Common.{◌≡◌}
use Rattle.node_actor.proofs.links.pull_between.Given as goal

abbrev pub invariant-loop-place : goal.invariant-loop-place
invariant-loop-place l = l.ins ≡ l.fn.ins
