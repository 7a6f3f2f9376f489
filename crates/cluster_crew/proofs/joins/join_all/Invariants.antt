use Rattle.std.proofs.Common.{◌≡◌, ◌+◌, ◌≤◌, drop, vec_len, vec_capacity}
use Rattle.std.specs.Vec.Iter.{into_iter_items, into_iter_len}
use Rattle.cluster_crew.specs.Crews.{CanGather, MembersStay}
use Rattle.cluster_crew.proofs.joins.join_all.Given as goal

abbrev pub invariant-loop-submitter : goal.invariant-loop-submitter
invariant-loop-submitter g l = record {
  members : MembersStay g.N.NodeModel g.D.Disk l.fn.members l.members;
  rest : CanGather g.N.NodeModel g.D.Disk l.desks (drop (vec_len l.held) l.clients) l.members (into_iter_items l.submitter-iterator);
  count : vec_len l.held + into_iter_len l.submitter-iterator ≡ vec_len l.fn.submitters;
  room : vec_len l.held + into_iter_len l.submitter-iterator ≤ vec_capacity l.held;
}
