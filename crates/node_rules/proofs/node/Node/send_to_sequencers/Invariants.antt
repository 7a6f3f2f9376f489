use Rattle.std.proofs.Common.{◌≡◌, map}
use Rattle.std.specs.List.{range_with_len}
use Rattle.node_rules.specs.Names.nodes
use Rattle.node_rules.specs.Turns.{turn_of, send_all}
use Rattle.node_rules.proofs.node.Node.send_to_sequencers.Given as goal

abbrev pub invariant-loop-number : goal.invariant-loop-number
invariant-loop-number g l = turn_of l.self l.out ≡ send_all (map nodes.Seq (range_with_len 0 l.number)) l.what (turn_of l.self l.fn.out)
