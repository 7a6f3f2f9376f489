use Rattle.std.proofs.Common.{◌≡◌, ◌+◌, ◌≤◌, length, map, vec_len, vec_capacity}
use Rattle.std.specs.List.{AllByRecursion}
use Rattle.std.specs.Vec.Iter.{into_iter_items, into_iter_len}
use Rattle.cluster_seats.specs.Blanks.{IsBlank}
use Rattle.cluster_seats.specs.inside.Midway.{IsMidway}
use Rattle.cluster_seats.proofs.seating.seat_all.Given as goal

abbrev pub invariant-loop-blank : goal.invariant-loop-blank
invariant-loop-blank g l = record {
  start : AllByRecursion (IsBlank g.N.NodeModel) (into_iter_items l.blank-iterator);
  midway : IsMidway g.N.NodeModel g.D.Disk l.plan l.yielded (record {
    vaults = l.fn.vaults.items;
    outs = map (λ row. row.items) l.fn.outs.items;
    ins = map (λ row. row.items) l.fn.ins.items;
  }) (record {
    vaults = into_iter_items l.vaults_left;
    outs = map (λ row. row.items) (into_iter_items l.outs_left);
    ins = map (λ row. row.items) (into_iter_items l.ins_left);
  }) l.actors.items;
  vaults : into_iter_len l.vaults_left ≡ into_iter_len l.blank-iterator;
  outs : into_iter_len l.outs_left ≡ into_iter_len l.blank-iterator;
  ins : into_iter_len l.ins_left ≡ into_iter_len l.blank-iterator;
  room : vec_len l.actors + into_iter_len l.blank-iterator ≤ vec_capacity l.actors;
}
