use Rattle.std.proofs.Common.{◌≡◌}
use Rattle.std.specs.List.{fold, range_with_len}
use Rattle.node_rules.specs.Turns.{turn_of}
use Rattle.consumer_node.specs.Rules.{fetch_at}
use Rattle.consumer_node.proofs.rules.fetch_some.Given as goal

abbrev pub invariant-loop-ahead : goal.invariant-loop-ahead
invariant-loop-ahead g l = turn_of l.consumer l.out ≡ fold fetch_at (turn_of l.consumer l.fn.out) (range_with_len l.applied l.ahead)
