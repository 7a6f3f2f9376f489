use Rattle.std.proofs.Common.{◌≡◌, ◌++◌, ◌+◌, length}
use Rattle.net_model.specs.Merges.{comes_first, interleaved, values_of}
use Rattle.net_model.proofs.merges.interleaved.Given as goal

abbrev pub invariant-loop-all : goal.invariant-loop-all
invariant-loop-all l =
    values_of l.all.items ++ interleaved comes_first (values_of l.front) (values_of l.back)
    ≡ interleaved comes_first (values_of l.initial.front) (values_of l.initial.back)

abbrev pub decreases-loop-all : goal.decreases-loop-all
decreases-loop-all l = length l.front + length l.back
