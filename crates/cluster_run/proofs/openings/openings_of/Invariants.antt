use Rattle.std.proofs.Common.{◌≡◌, length}
use Rattle.std.specs.List.{AllByRecursion}
use Rattle.cluster_run.specs.Beginning.{IsFirst}
use Rattle.cluster_run.proofs.openings.openings_of.Given as goal

abbrev pub invariant-loop-number : goal.invariant-loop-number
invariant-loop-number l = record {
  count : length l.openings.items ≡ l.number;
  first : AllByRecursion IsFirst l.openings.items;
}
