use Rattle.std.proofs.Common.{◌≡◌, take}
use Rattle.std.specs.List.{fold}
use Rattle.node_rules.specs.Turns.{turn_of}
use Rattle.seq_node.specs.Rules.{fill}
use Rattle.seq_node.proofs.ticks.fill_rows.Given as goal

abbrev pub invariant-loop-row : goal.invariant-loop-row
invariant-loop-row l = turn_of l.seq l.out ≡ fold fill (turn_of l.seq l.fn.out) (take l.row-index l.rows)
