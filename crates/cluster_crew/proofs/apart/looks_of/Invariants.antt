use Rattle.std.proofs.Common.{◌+◌, ◌≤◌, vec_len, vec_capacity}
use Rattle.std.specs.List.{AllZip}
use Rattle.std.specs.Vec.Iter.{into_iter_len}
use Rattle.cluster_crew.specs.Ending.{IsKeptBy}
use Rattle.cluster_crew.proofs.apart.looks_of.Given as goal

abbrev pub invariant-loop-reader : goal.invariant-loop-reader
invariant-loop-reader l = record {
  each : AllZip IsKeptBy l.yielded l.looks.items;
  room : vec_len l.looks + into_iter_len l.reader-iterator ≤ vec_capacity l.looks;
}
