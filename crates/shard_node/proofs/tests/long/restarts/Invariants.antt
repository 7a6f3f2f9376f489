use Rattle.std.proofs.Common.{◌≡◌, false}
use Rattle.shard_node.proofs.tests.long.restarts.Given as goal

abbrev pub invariant-loop-restart : goal.invariant-loop-restart
invariant-loop-restart l = l.node.spent ≡ false
