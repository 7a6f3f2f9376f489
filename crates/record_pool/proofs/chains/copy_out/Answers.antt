use Rattle.std.proofs.Common.{◌≡◌, ◌∙◌, ◌<◌, ◌+◌, ◌-◌, ◌++◌, min, take, drop, get_or, [], ap, sym, subst, length, arith}
use Rattle.std.proofs.lemmas.Slice.{take-put_mid}
use Rattle.std.proofs.lemmas.List.{length-take-le, length-drop}
use Rattle.std.specs.List.{concat}
use Rattle.record_pool.specs.Chains.{chain, contents}
use Rattle.record_pool.specs.inside.Kept.{Below}
use Rattle.record_pool.proofs.ChainLemmas.{chain_more, read_more}
use Rattle.record_pool.proofs.chains.copy_out.Goals as goal

pub loop-i-preserved : goal.loop-i-preserved
loop-i-preserved c =
    let next = c.args.next.now in
    let blocks = c.args.blocks.now in
    let at = c.loop-i.at in
    let i = c.loop-i._i in
    let count = c.args.count in
    let room = length c.args.into.now in
    let done = c.loop-i.done in
    let n = c.min-len.result in
    let more : i < count = omega (arith, c.loop-i-test.true) in
    let long : length (get_or blocks at []) ≡ 64 = c.copy_front.ensures.whole in
    let same : length c.loop-i.into ≡ room = c.loop-i.auto.into in
    let is : n ≡ min (room - done) 64 = c.min-len.ensures ∙ ap (λ k. min (k - done) 64) same in
    let e : done + n - done ≡ n = omega arith in
    let part : length (take (done + n - done) (drop done c.loop-i.into)) ≡ n =
    length-take-le (done + n - done) (drop done c.loop-i.into) (omega (arith, length-drop done c.loop-i.into, is, same)) ∙ e in
    let read : c.copy_front.new.into ≡ take n (get_or blocks at []) = c.copy_front.ensures.front ∙ ap (λ k. take k (get_or blocks at [])) part in
    let len : length c.copy_front.new.into ≡ n = ap length read ∙ length-take-le n (get_or blocks at []) (omega (arith, long, is)) in
    record {
      copied = ap (λ bs. bs ++ take (room - (done + n)) (concat (contents blocks (chain next (get_or next at 0) (count - (i + 1))))))
          (take-put_mid done _ c.loop-i.into c.copy_front.new.into (done + n) (omega (arith, len)) (omega (arith, c.loop-i.invariant.done, same))
          ∙ ap (λ bs. take done c.loop-i.into ++ bs) read)
          ∙ read_more blocks next at i count done n room (take done c.loop-i.into) more long is ∙ c.loop-i.invariant.copied;
      below = (subst (Below (length next)) (chain_more next at i count more) c.loop-i.invariant.below).1;
      done = omega (arith, is, c.loop-i.invariant.done);
      room = omega (arith, is, more, c.loop-i.invariant.room, c.loop-i.invariant.done);
    }
