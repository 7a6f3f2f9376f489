use Rattle.std.proofs.Common.{rules, ◌≡◌, ◌<◌, length, get_or, vec_len, ap, sym, ◌∙◌, arith}
use Rattle.cluster_users.specs.Reading.{reading}
use Rattle.plan_views.proofs.Counting.{counted_at, counted_next, place_below}
use Rattle.plan_views.proofs.Passes.{wait_next, wait_at, watching_next}
use Rattle.plan_views.proofs.begun.watching.Goals as goal

pub remove-pass-requires : goal.remove-pass-requires
remove-pass-requires c =
    let passes = c.index_mut.result.now in
    let below : c.loop-consumer.consumer-index < length c.args.consumers.now = search rules in
    let most = c.loop-consumer.invariant.same in
    let place =
    place_below (length c.args.waiting.items) c.args.consumers.now c.loop-consumer.consumer-index c.from.result c.requires.consumers below c.from.ensures in
    let within : c.from.result < length c.loop-consumer.waiting.items = omega (arith, place, most) in
    let some =
    counted_at (λ q. q.items) c.args.consumers.now c.loop-consumer.consumer-index c.from.result c.loop-consumer.waiting.items passes below c.from.ensures
    c.loop-consumer.invariant.counted within c.index_mut.ensures.value in
    let same : length passes.items ≡ vec_len passes = search rules in
    omega (arith, some, same)

pub loop-consumer-preserved : goal.loop-consumer-preserved
loop-consumer-preserved c =
    let inv = c.loop-consumer.invariant in
    let passes = c.index_mut.result.now in
    let left = c.remove-pass.new.self in
    let below : c.loop-consumer.consumer-index < length c.args.consumers.now = search rules in
    let most = c.loop-consumer.invariant.same in
    let place =
    place_below (length c.args.waiting.items) c.args.consumers.now c.loop-consumer.consumer-index c.from.result c.requires.consumers below c.from.ensures in
    let within : c.from.result < length c.loop-consumer.waiting.items = omega (arith, place, most) in
    let some =
    counted_at (λ q. q.items) c.args.consumers.now c.loop-consumer.consumer-index c.from.result c.loop-consumer.waiting.items passes below c.from.ensures
    inv.counted within c.index_mut.ensures.value in
    let same : length passes.items ≡ vec_len passes = search rules in
    let same_left : length left.items ≡ vec_len left = search rules in
    let fewer = c.remove-pass.ensures.len in
    let all : length c.loop-consumer.readers.items ≡ vec_len c.loop-consumer.readers = search rules in
    let number = c.len-number.ensures ∙ inv.count in
    let made =
    c.new.ensures ∙ ap (λ n. reading n (get_or c.args.consumers.now c.loop-consumer.consumer-index 0) c.remove-pass.result) number
    ∙ ap (λ of. reading c.loop-consumer.consumer-index of c.remove-pass.result) (sym c.from.ensures) in
    record {
      count = search rules;
      same = search rules;
      counted =
          counted_next (λ q. q.items) c.args.consumers.now c.loop-consumer.consumer-index c.from.result c.loop-consumer.waiting.items passes left below
          c.from.ensures inv.counted c.index_mut.ensures.value (omega (arith, same, same_left, fewer));
      waiting = λ views wait.
          wait_next (λ q. q.items) views c.loop-consumer.waiting.items c.from.result passes left (inv.waiting views wait) c.index_mut.ensures.value
          c.remove-pass.ensures.items;
      watching = λ views wait.
          let at =
          wait_at (λ q. q.items) views c.loop-consumer.waiting.items c.from.result passes c.remove-pass.result (inv.waiting views wait) within
          c.index_mut.ensures.value some c.remove-pass.ensures.value in
          watching_next views c.args.consumers.now c.loop-consumer.consumer-index c.loop-consumer.readers.items c.push.new.self.items c.from.result
          c.remove-pass.result c.new.result (inv.watching views wait) below (all ∙ inv.count) c.in_ok-push.ensures.items c.from.ensures at made;
    }
