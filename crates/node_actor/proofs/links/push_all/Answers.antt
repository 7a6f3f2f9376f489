use Rattle.std.proofs.Common.{◌∙◌, arith}
use Rattle.node_actor.proofs.LaneLemmas.{links_set, lanes_kept}
use Rattle.node_actor.proofs.links.push_all.Goals as goal

pub loop-place-preserved : goal.loop-place-preserved
loop-place-preserved c =
    let outs = c.loop-place.outs in
    let k = c.loop-place.place in
    let o = c.index-outs-place.result in
    let moved = c.push_some-moved.ensures in
    record {
      links = links_set outs k o c.push_some-moved.new.self (omega (arith, c.loop-place-test.true, c.loop-place.auto.outs)) moved.link
          ∙ c.loop-place.invariant.links;
      queued = λ faults. lanes_kept outs faults k o c.push_some-moved.new.self (omega (arith, c.loop-place-test.true, c.loop-place.auto.outs)) moved.queued
          ∙ c.loop-place.invariant.queued faults;
    }
