use Rattle.std.proofs.Common.{◌≡◌, length, map, take, drop, vec_len}
use Rattle.std.specs.List.{AllZip}
use Rattle.plan_views.specs.Views.{AreCounted, AreWatching, WaitAt}
use Rattle.plan_views.proofs.begun.watching.Given as goal

-- so many readers have their passes, and the later ones have theirs waiting
abbrev pub invariant-loop-consumer : goal.invariant-loop-consumer
invariant-loop-consumer l = record {
  count : vec_len l.readers ≡ l.consumer-index;
  same : length l.waiting.items ≡ length l.fn.waiting.items;
  counted : AreCounted 0 (drop l.consumer-index l.consumers) (map (λ q. q.items) l.waiting.items);
  waiting : (views : _) → AllZip WaitAt views (map (λ q. q.items) l.fn.waiting.items) → AllZip WaitAt views (map (λ q. q.items) l.waiting.items);
  watching : (views : _) → AllZip WaitAt views (map (λ q. q.items) l.fn.waiting.items)
      → AreWatching views 0 (take l.consumer-index l.consumers) l.readers.items;
}
