use Rattle.std.proofs.Common.{◌≡◌, map, take}
use Rattle.world.specs.AnyNodes.{fresh_any}
use Rattle.world.proofs.cluster.fresh_nodes.Given as goal

abbrev pub invariant-loop-node : goal.invariant-loop-node
invariant-loop-node l = l.made.items ≡ map (fresh_any l.cfg) (take l.node-index l.order)
