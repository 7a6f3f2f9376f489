use Rattle.std.proofs.Common.{◌≡◌}
use Rattle.std.specs.List.{fold, range_with_len}
use Rattle.node_rules.specs.Turns.{turn_of}
use Rattle.client_node.specs.Rules.{append}
use Rattle.client_node.proofs.sends.append_all.Given as goal

abbrev pub invariant-loop-ahead : goal.invariant-loop-ahead
invariant-loop-ahead l = turn_of l.client l.out ≡ fold append (turn_of l.client l.fn.out) (range_with_len l.acked l.ahead)
