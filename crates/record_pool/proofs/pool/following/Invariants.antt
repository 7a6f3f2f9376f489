use Rattle.std.proofs.Common.{◌≡◌}
use Rattle.record_pool.specs.Chains.{numbers_from}
use Rattle.record_pool.proofs.pool.following.Given as goal

abbrev pub invariant-loop-number : goal.invariant-loop-number
invariant-loop-number l = l.next.items ≡ numbers_from 1 l.number
