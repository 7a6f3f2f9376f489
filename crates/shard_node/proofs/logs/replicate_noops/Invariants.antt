use Rattle.std.proofs.Common.{◌≡◌, ◌-◌}
use Rattle.node_rules.specs.Turns.{turn_of}
use Rattle.shard_node.specs.Logs.{replicate_noops}
use Rattle.shard_node.proofs.logs.replicate_noops.Given as goal

abbrev pub invariant-loop-local : goal.invariant-loop-local
invariant-loop-local l = turn_of l.replica l.out ≡ replicate_noops l.from (l.local - l.from) (turn_of l.replica l.fn.out)
