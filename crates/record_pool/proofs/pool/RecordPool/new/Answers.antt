use Rattle.std.proofs.Common.{◌≡◌, ◌∙◌, ◌^◌, ◌<◌, ℕ, List, replicate, length, sym, subst, arith}
use Rattle.record_pool.specs.Chains.{numbers_from}
use Rattle.record_pool.specs.inside.Kept.{IsWhole}
use Rattle.record_pool.proofs.PoolLemmas.{whole_new, pool_new}
use Rattle.record_pool.proofs.pool.RecordPool.new.Goals as goal

pub invariant_of-result : goal.invariant_of-result
invariant_of-result c =
    let total = c.args.blocks in
    let next = c.in_ok-following.field-0.items in
    let counts = c.in_ok-vec-2.field-0.items in
    let small : total < 2 ^ 32 = omega (arith, c.ranges.blocks.fits) in
    let long : length c.in_ok-vec.field-0.items ≡ total = sym c.in_ok-vec.field-0.ok.0 ∙ c.in_ok-vec.ensures.len in
    let zeros : counts ≡ replicate total 0 = c.in_ok-vec-2.ensures.items_if_clones_equal (λ y e. e) in
    subst (λ t. IsWhole next counts 0 total t) (sym long)
    (subst (λ ns. IsWhole ns counts 0 total total) (sym c.in_ok-following.ensures)
    (subst (λ cs. IsWhole (numbers_from 1 total) cs 0 total total) (sym zeros) (whole_new total small)))

pub returns : goal.returns
returns c =
    pool_new c.in_ok-vec.field-0.items c.in_ok-following.field-0.items c.in_ok-vec-2.field-0.items c.args.blocks
    (c.in_ok-vec-2.ensures.items_if_clones_equal (λ y e. e))
