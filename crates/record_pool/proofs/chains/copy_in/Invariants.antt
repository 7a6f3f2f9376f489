use Rattle.std.proofs.Common.{◌≡◌, ◌-◌, length}
use Rattle.record_pool.specs.Chains.{chain, walk, put_all}
use Rattle.record_pool.specs.Pools.{laid_out}
use Rattle.record_pool.specs.inside.Kept.{Below}
use Rattle.record_pool.proofs.chains.copy_in.Given as goal

abbrev pub invariant-loop-i : goal.invariant-loop-i
invariant-loop-i l = record {
  walked : walk l.next l.at (l.count - l._i) ≡ walk l.fn.next l.fn.first l.fn.count;
  below : Below (length l.next) (chain l.next l.at (l.count - l._i));
  written : put_all l.blocks (chain l.next l.at (l.count - l._i)) (laid_out (l.count - l._i) l.rest)
      ≡ put_all l.fn.blocks (chain l.fn.next l.fn.first l.fn.count) (laid_out l.fn.count l.fn.bytes);
  same : length l.next ≡ length l.blocks;
}
