use Rattle.std.proofs.Common.{◌≡◌, length, arith}
use Rattle.std.specs.Prelude.{vec_len}
use Rattle.cluster_crew.specs.Crews.{MembersStay}
use Rattle.cluster_crew.proofs.Crews.{crew_of, written}
use Rattle.cluster_crew.proofs.crew.Crew.commanded.Goals as goal

pub returns : goal.returns
returns g c =
    let write = c.as_mut_slice.ensures in
    let len : length c.command-result.new.members ≡ vec_len c.args.self.members = omega (arith, c.command-result.auto.members, write.len) in
    crew_of g.N.NodeModel g.D.Disk c.args.self _
    (written (MembersStay g.N.NodeModel g.D.Disk) c.args.self.members _ c.command-result.new.members write.value len c.command-result.ensures.stays) (λ xs
    at. at) (λ xs at. at)
