use Rattle.std.proofs.Common.{◌≡◌, ◌++◌, replicate}
use Rattle.majority.specs.Acceptors.{fresh_acceptor}
use Rattle.seq_node.proofs.acceptors.Acceptors.reach.Given as goal

abbrev pub invariant-loop-place : goal.invariant-loop-place
invariant-loop-place l = l.self-inside.items.items ≡ l.fn.self ++ replicate l._place fresh_acceptor
