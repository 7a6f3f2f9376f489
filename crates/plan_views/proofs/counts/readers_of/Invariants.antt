use Rattle.std.proofs.Common.{◌≡◌, ◌≤◌, take}
use Rattle.plan_views.specs.Views.{count_of}
use Rattle.plan_views.proofs.counts.readers_of.Given as goal

abbrev pub invariant-loop-reader : goal.invariant-loop-reader
invariant-loop-reader l = (l.count ≡ count_of l.consumer (take l.reader-index l.readers)) × (l.count ≤ l.reader-index)
