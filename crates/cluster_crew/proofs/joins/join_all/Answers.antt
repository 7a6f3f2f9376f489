use Rattle.std.proofs.Common.{rules, ap, sym, subst, drop, vec_len, length, ◌<◌}
use Rattle.std.specs.Vec.Iter.{into_iter_items}
use Rattle.cluster_crew.specs.Crews.{CanGather}
use Rattle.cluster_crew.proofs.Crews.{gather_pass, gather_rest, gather_within, gathers_join, members_itself, members_then}
use Rattle.cluster_crew.proofs.joins.join_all.Goals as goal

pub loop-submitter-init : goal.loop-submitter-init
loop-submitter-init g c = record {
  members = members_itself g.N.NodeModel g.D.Disk c.args.members.now;
  rest = search rules;
  count = search rules;
  room = search rules;
}

pub bounds-clients-len : goal.bounds-clients-len
bounds-clients-len g c =
    subst (λ n. n < length c.args.clients.now) (sym c.len.ensures)
    (gather_within g.N.NodeModel g.D.Disk c.args.desks.now c.args.clients.now (vec_len c.loop-submitter.held) c.loop-submitter.members _ c.in-Some.submitter _ 0
    c.in-Some.ensures.steps.0 c.loop-submitter.invariant.rest)

pub join-requires-clause-at : goal.join-requires-clause-at
join-requires-clause-at g c = gathers_join g.N.NodeModel g.D.Disk c.args.desks.now _ c.loop-submitter.members _ c.loop-submitter.invariant.rest

pub join-requires-clause-pass : goal.join-requires-clause-pass
join-requires-clause-pass g c =
    let rest = subst (λ n. CanGather g.N.NodeModel g.D.Disk c.args.desks.now (drop n c.args.clients.now) c.loop-submitter.members
    (into_iter_items c.loop-submitter.submitter-iterator)) (sym c.len.ensures) c.loop-submitter.invariant.rest in
    gather_pass g.N.NodeModel g.D.Disk c.args.desks.now c.args.clients.now c.len.result c.loop-submitter.members _ c.in-Some.submitter _ _
    c.into_parts-pass.result.0
    c.in-Some.ensures.steps.0 rest (ap (λ k. k.submits) c.into_parts-pass.ensures.pass.1) c.into_parts-pass.ensures.pass.0

pub loop-submitter-preserved : goal.loop-submitter-preserved
loop-submitter-preserved g c = record {
  members = members_then g.N.NodeModel g.D.Disk c.args.members.now c.loop-submitter.members c.join.new.members c.loop-submitter.invariant.members
      c.join.ensures;
  rest = subst (λ n. CanGather g.N.NodeModel g.D.Disk c.args.desks.now (drop n c.args.clients.now) c.join.new.members (into_iter_items c.next.new.self))
      (sym c.push_reserved.ensures.len)
      (gather_rest g.N.NodeModel g.D.Disk c.args.desks.now c.args.clients.now (vec_len c.loop-submitter.held) c.loop-submitter.members _ c.in-Some.submitter _ 0
      c.join.new.members c.in-Some.ensures.steps.0 c.loop-submitter.invariant.rest c.join.ensures);
  count = search rules;
  room = search rules;
}
