use Rattle.std.proofs.Common.{rules, ◌≡◌, ◌+◌, length, length-append, vec_len, ap, ◌∙◌, [], ◌∷◌, subst, arith}
use Rattle.std.specs.List.{AllByRecursion}
use Rattle.scoped_turns.proofs.Pairs.{pushed}
use Rattle.plan_views.specs.Views.{IsOpened, IsOpening, count_of}
use Rattle.plan_views.proofs.Counting.{counted_more}
use Rattle.plan_views.proofs.Passes.{wait_from, wait_more}
use Rattle.plan_views.proofs.begun.open.Goals as goal

pub loop-opening-preserved : goal.loop-opening-preserved
loop-opening-preserved g c =
    let inv = c.loop-opening.invariant in
    let publisher = c.in_ok-publisher.publisher in
    let passes = c.in_ok-publisher.passes in
    let all_passes : length passes.items ≡ vec_len passes = search rules in
    let all_waiting : length c.loop-opening.waiting.items ≡ vec_len c.loop-opening.waiting = search rules in
    let same = inv.same in
    let number = c.len-in-loop-opening.ensures in
    let at : c.len-in-loop-opening.result ≡ 0 + length c.loop-opening.waiting.items = omega (arith, all_waiting, same, number) in
    let count = c.in_ok-publisher.ensures.readers ∙ c.readers_of-count.ensures.count ∙ ap (λ n. count_of n c.args.readers.now) at in
    let up : vec_len c.push-in-loop-opening.new.self ≡ vec_len c.loop-opening.waiting + 1 = search rules in
    let more = length-append c.loop-opening.yielded (c.in-Some.opening ∷ []) in
    let long = inv.long in
    record {
      same = search rules;
      long = omega (arith, more, long, up);
      left = (subst (AllByRecursion IsOpening) c.in-Some.ensures.steps.0 inv.left).1;
      publishers = pushed IsOpened _ _ _ _ _ c.in_ok-push.ensures.items inv.publishers c.in_ok-publisher.ensures.publisher;
      counted =
          counted_more (λ q. q.items) c.args.readers.now c.loop-opening.waiting.items passes c.push-in-loop-opening.new.self.items c.in_ok-push-2.ensures.items
          inv.counted (all_passes ∙ count);
      waiting =
          wait_more (λ q. q.items) c.loop-opening.publishers.items c.push.new.self.items c.loop-opening.waiting.items c.push-in-loop-opening.new.self.items
          publisher passes c.in_ok-push.ensures.items c.in_ok-push-2.ensures.items inv.waiting
          (wait_from publisher c.in-Some.opening passes.items c.in_ok-publisher.ensures.publisher c.in_ok-publisher.ensures.passes);
    }
