use Rattle.std.proofs.Common.{arith}
use Rattle.cluster_crew.proofs.Crews.{members_itself, members_set, one_turns}
use Rattle.cluster_crew.proofs.joins.join.Goals as goal

pub loop-place-init : goal.loop-place-init
loop-place-init g c = members_itself g.N.NodeModel g.D.Disk c.args.members.now

pub join-requires-clause-at : goal.join-requires-clause-at
join-requires-clause-at g c =
    one_turns g.N.NodeModel g.D.Disk c.args.desks.now c.args.members.now c.loop-place.members c.loop-place.place c.index-members-place-then-eq.result
    c.requires.at
    c.loop-place.invariant (omega arith)

pub returns-then-eq : goal.returns-then-eq
returns-then-eq g c =
    members_set g.N.NodeModel g.D.Disk c.args.members.now c.loop-place.members c.loop-place.place c.index-members-place-then-eq.result
    c.join.new.self c.loop-place.invariant
    c.join.ensures
