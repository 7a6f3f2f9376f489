use Rattle.std.proofs.Common.{◌≡◌, ◌-◌, ◌≤◌}
use Rattle.std.specs.List.{fold, range_with_len}
use Rattle.node_rules.specs.Turns.{turn_of}
use Rattle.shard_node.specs.Learning.{confirm}
use Rattle.shard_node.proofs.learning.confirm_from.Given as goal

abbrev pub invariant-loop-local : goal.invariant-loop-local
invariant-loop-local l = record {
  confirmed : turn_of l.replica l.out ≡ fold confirm (turn_of l.replica l.fn.out) (range_with_len l.before (l.local - l.before));
  within : l.local - l.before ≤ l.local-end - l.before;
}
