use Rattle.std.proofs.Common.{◌≡◌, false}
use Rattle.shard_node.proofs.tests.long.fills.Given as goal

abbrev pub invariant-loop-round : goal.invariant-loop-round
invariant-loop-round l = l.node.spent ≡ false
