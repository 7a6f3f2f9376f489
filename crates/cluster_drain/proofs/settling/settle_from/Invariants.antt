use Rattle.std.proofs.Common.{◌≡◌, ◌<◌, ℕ, length}
use Rattle.cluster_drain.specs.Drains.{Drains}
use Rattle.cluster_drain.specs.inside.Pairs.{IsLinkSettled, StaySettled}
use Rattle.cluster_drain.proofs.settling.settle_from.Given as goal

abbrev pub invariant-loop-to : goal.invariant-loop-to
invariant-loop-to g l = record {
  drains : Drains g.N.NodeModel g.D.Disk l.fn.actors l.actors;
  done : (to : ℕ) → to < l.to → IsLinkSettled l.actors l.from to;
  kept : StaySettled l.fn.actors l.actors;
  end : l.to-end ≡ length l.fn.actors;
}
