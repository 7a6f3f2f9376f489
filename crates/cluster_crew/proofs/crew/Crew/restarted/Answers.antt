use Rattle.std.proofs.Common.{◌≡◌, length, arith}
use Rattle.std.specs.Prelude.{vec_len}
use Rattle.cluster_crew.specs.Crews.{MembersStay}
use Rattle.cluster_crew.proofs.Crews.{crew_of, written}
use Rattle.cluster_crew.proofs.crew.Crew.restarted.Goals as goal

pub returns : goal.returns
returns g c =
    let write = c.as_mut_slice.ensures in
    let len : length c.restart.new.members ≡ vec_len c.args.self.members = omega (arith, c.restart.auto.members, write.len) in
    crew_of g.N.NodeModel g.D.Disk c.args.self _
    (written (MembersStay g.N.NodeModel g.D.Disk) c.args.self.members _ c.restart.new.members write.value len c.restart.ensures.stays)
    (λ xs at. at) (λ xs at. at)
