use Rattle.std.proofs.Common.{◌≡◌, ◌≤◌, ◌-◌, ◌*◌, ◌++◌, length, take}
use Rattle.std.specs.List.{concat}
use Rattle.record_pool.specs.Chains.{chain, contents}
use Rattle.record_pool.specs.inside.Kept.{Below}
use Rattle.record_pool.proofs.chains.copy_out.Given as goal

abbrev pub invariant-loop-i : goal.invariant-loop-i
invariant-loop-i l = record {
  copied : take l.done l.into ++ take (length l.fn.into - l.done) (concat (contents l.blocks (chain l.next l.at (l.count - l._i))))
      ≡ take (length l.fn.into) (concat (contents l.fn.blocks (chain l.fn.next l.fn.first l.fn.count)));
  below : Below (length l.next) (chain l.next l.at (l.count - l._i));
  done : l.done ≤ length l.fn.into;
  room : length l.fn.into - l.done ≤ 64 * (l.count - l._i);
}
