use Rattle.std.proofs.Common.{◌∙◌, ◌<◌, sym, subst, length, arith}
use Rattle.record_pool.specs.inside.Kept.{Below}
use Rattle.record_pool.proofs.ChainLemmas.{chain_more, walk_more}
use Rattle.record_pool.proofs.chains.after.Goals as goal

pub loop-i-preserved : goal.loop-i-preserved
loop-i-preserved c =
    let next = c.args.next.now in
    let at = c.loop-i.at in
    let more : c.loop-i._i < c.args.steps = omega (arith, c.loop-i-test.true) in
    record {
      walked = sym (walk_more next at c.loop-i._i c.args.steps more) ∙ c.loop-i.invariant.walked;
      below = (subst (Below (length next)) (chain_more next at c.loop-i._i c.args.steps more) c.loop-i.invariant.below).1;
    }
