use Rattle.std.proofs.Common.{◌≡◌, length, arith, sym, subst}
use Rattle.std.specs.Prelude.{vec_len}
use Rattle.std.specs.Vec.{with_items}
use Rattle.cluster_crew.specs.Crews.{CanGather, CanJoin, MembersStay}
use Rattle.cluster_crew.proofs.Crews.{gathers, joins_on, members_then, seated_on, submitters_count, written}
use Rattle.cluster_crew.proofs.crew.Crew.end.Goals as goal

pub join_all-held-requires-clause-places : goal.join_all-held-requires-clause-places
join_all-held-requires-clause-places g c =
    subst (λ ms. CanGather g.N.NodeModel g.D.Disk c.args.desks.now c.as_slice-clients.result.now ms c.args.self.submitters.items) (sym
    c.deref_mut.ensures.value)
    (subst (λ clients. CanGather g.N.NodeModel g.D.Disk c.args.desks.now clients c.args.self.members.items c.args.self.submitters.items)
    (sym c.as_slice-clients.ensures) (gathers g.N.NodeModel g.D.Disk c.args.plan.now c.args.desks.now c.args.self c.requires.places))

pub take_bodies-left-requires-clause-at : goal.take_bodies-left-requires-clause-at
take_bodies-left-requires-clause-at g c =
    let self = c.args.self in
    let new = c.join_all-held.new.members in
    let len : length new ≡ vec_len self.members = omega (arith, c.join_all-held.auto.members, c.deref_mut.ensures.len) in
    let can = (gathers g.N.NodeModel g.D.Disk c.args.plan.now c.args.desks.now self c.requires.places).0 in
    let stays = written (MembersStay g.N.NodeModel g.D.Disk) self.members _ new c.deref_mut.ensures.value len c.join_all-held.ensures.members in
    subst (CanJoin g.N.NodeModel g.D.Disk c.args.desks.now) (sym c.deref_mut-2.ensures.value)
    (joins_on g.N.NodeModel g.D.Disk c.args.desks.now self.members.items _ can stays)

pub take_bodies-left-requires-clause-few : goal.take_bodies-left-requires-clause-few
take_bodies-left-requires-clause-few g c =
    let count = submitters_count g.N.NodeModel g.D.Disk c.args.plan.now c.args.desks.now c.args.self c.requires.places in
    omega (arith, count, c.requires.valid.most_submitters, c.deref_mut-3.ensures.len, c.join_all-held.ensures.each, c.args.self.submitters.ok.0)

pub returns-clause-seated : goal.returns-clause-seated
returns-clause-seated g c = λ places at.
    let self = c.args.self in
    let joined = c.join_all-held.new.members in
    let taken = c.take_bodies-left.new.members in
    let first : length joined ≡ vec_len self.members = omega (arith, c.join_all-held.auto.members, c.deref_mut.ensures.len) in
    let second : length taken ≡ vec_len self.members = omega (arith, c.take_bodies-left.auto.members, c.deref_mut-2.ensures.len) in
    let one = written (MembersStay g.N.NodeModel g.D.Disk) self.members _ joined c.deref_mut.ensures.value first c.join_all-held.ensures.members in
    let two = written (MembersStay g.N.NodeModel g.D.Disk) (with_items self.members joined) _ taken c.deref_mut-2.ensures.value second
    c.take_bodies-left.ensures.members in
    seated_on g.N.NodeModel g.D.Disk places self _ _ at (members_then g.N.NodeModel g.D.Disk self.members.items _ _ one two) c.actors_of.ensures
