use Rattle.std.proofs.Common.{◌≡◌, ◌-◌, length}
use Rattle.record_pool.specs.Chains.{chain, walk}
use Rattle.record_pool.specs.inside.Kept.{Below}
use Rattle.record_pool.proofs.chains.after.Given as goal

abbrev pub invariant-loop-i : goal.invariant-loop-i
invariant-loop-i l = record {
  walked : walk l.next l.at (l.steps - l._i) ≡ walk l.fn.next l.fn.first l.fn.steps;
  below : Below (length l.next) (chain l.next l.at (l.steps - l._i));
}
