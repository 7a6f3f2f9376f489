use Rattle.std.proofs.Common.{◌≡◌, length, map, vec_len}
use Rattle.std.specs.List.{AllByRecursion, AllZip}
use Rattle.std.specs.Vec.Iter.{into_iter_items}
use Rattle.plan_views.specs.Views.{AreCounted, IsOpened, IsOpening, WaitAt}
use Rattle.plan_views.proofs.begun.open.Given as goal

-- so many views were made, and the later openings are openings
abbrev pub invariant-loop-opening : goal.invariant-loop-opening
invariant-loop-opening g l = record {
  same : vec_len l.waiting ≡ vec_len l.publishers;
  long : length l.yielded ≡ vec_len l.waiting;
  left : AllByRecursion IsOpening (into_iter_items l.opening-iterator);
  publishers : AllZip IsOpened l.yielded l.publishers.items;
  counted : AreCounted 0 l.readers (map (λ q. q.items) l.waiting.items);
  waiting : AllZip WaitAt l.publishers.items (map (λ q. q.items) l.waiting.items);
}
