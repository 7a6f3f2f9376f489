use Rattle.std.proofs.Common.{◌≡◌, ◌-◌}
use Rattle.node_rules.specs.Turns.{turn_of}
use Rattle.shard_node.specs.Rules.{replicate_from}
use Rattle.shard_node.proofs.rules.replicate_from.Given as goal

abbrev pub invariant-loop-local : goal.invariant-loop-local
invariant-loop-local l = turn_of l.replica l.out ≡ replicate_from l.from (l.local - l.from) (turn_of l.replica l.fn.out)
