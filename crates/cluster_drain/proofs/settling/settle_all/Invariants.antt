use Rattle.std.proofs.Common.{◌≡◌, ◌<◌, ℕ, length}
use Rattle.cluster_drain.specs.Drains.{Drains}
use Rattle.cluster_drain.specs.inside.Pairs.{IsLinkSettled}
use Rattle.cluster_drain.proofs.settling.settle_all.Given as goal

abbrev pub invariant-loop-from : goal.invariant-loop-from
invariant-loop-from g l = record {
  drains : Drains g.N.NodeModel g.D.Disk l.fn.actors l.actors;
  done : (from : ℕ) → from < l.from → (to : ℕ) → to < length l.fn.actors → IsLinkSettled l.actors from to;
  end : l.from-end ≡ length l.fn.actors;
}
