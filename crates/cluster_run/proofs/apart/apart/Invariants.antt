use Rattle.std.proofs.Common.{◌≡◌, ◌+◌, ◌≤◌, vec_len, vec_capacity}
use Rattle.std.specs.Vec.Iter.{into_iter_len}
use Rattle.node_seats.specs.Seats.{journals_of}
use Rattle.cluster_run.specs.Answers.{disks_of}
use Rattle.cluster_run.proofs.apart.apart.Given as goal

abbrev pub invariant-loop-actor : goal.invariant-loop-actor
invariant-loop-actor g l = record {
  journals : l.journals.items ≡ journals_of l.yielded;
  disks : l.disks.items ≡ disks_of l.yielded;
  journals_room : vec_len l.journals + into_iter_len l.actor-iterator ≤ vec_capacity l.journals;
  disks_room : vec_len l.disks + into_iter_len l.actor-iterator ≤ vec_capacity l.disks;
}
