use Rattle.std.proofs.Common.{◌∙◌, ◌<◌, sym, subst, length, length-set, arith}
use Rattle.record_pool.specs.inside.Kept.{Below}
use Rattle.record_pool.proofs.ChainLemmas.{chain_more, walk_more, write_more}
use Rattle.record_pool.proofs.chains.copy_in.Goals as goal

pub loop-i-preserved : goal.loop-i-preserved
loop-i-preserved c =
    let next = c.args.next.now in
    let at = c.loop-i.at in
    let more : c.loop-i._i < c.args.count = omega (arith, c.loop-i-test.true) in
    record {
      walked = sym (walk_more next at c.loop-i._i c.args.count more) ∙ c.loop-i.invariant.walked;
      below = (subst (Below (length next)) (chain_more next at c.loop-i._i c.args.count more) c.loop-i.invariant.below).1;
      written = write_more c.loop-i.blocks next at c.loop-i._i c.args.count c.min.result c.loop-i.rest.now c.split_at.result.0.now c.split_at.result.1.now
          c.block_of.result more c.min.ensures c.split_at.ensures.front c.split_at.ensures.back c.block_of.ensures ∙ c.loop-i.invariant.written;
      same = c.loop-i.invariant.same ∙ sym (length-set c.loop-i.blocks at c.block_of.result);
    }
