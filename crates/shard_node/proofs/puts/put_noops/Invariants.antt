use Rattle.std.proofs.Common.{◌≡◌, ◌++◌, replicate}
use Rattle.node_rules.specs.Names.records.{Noop}
use Rattle.node_rules.specs.Nodes.{with_own}
use Rattle.shard_node.specs.States.{with_log}
use Rattle.shard_node.proofs.puts.put_noops.Given as goal

abbrev pub invariant-loop-place : goal.invariant-loop-place
invariant-loop-place l = l.replica ≡ with_own (with_log (l.fn.replica.own.log ++ replicate l._place Noop) l.fn.replica.own) l.fn.replica
