use Rattle.std.proofs.Common.{◌≡◌, length, arith, sym, subst}
use Rattle.std.specs.Prelude.{vec_len}
use Rattle.std.proofs.lemmas.List.{with_items_is}
use Rattle.cluster_crew.specs.Crews.{AreFaultless, MembersStay}
use Rattle.cluster_crew.proofs.Crews.{crew_of, written}
use Rattle.cluster_crew.proofs.crew.Crew.without_faults.Goals as goal

pub returns-clause-stays : goal.returns-clause-stays
returns-clause-stays g c =
    let write = c.as_mut_slice.ensures in
    let len : length c.end_faults.new.members ≡ vec_len c.args.self.members = omega (arith, c.end_faults.auto.members, write.len) in
    crew_of g.N.NodeModel g.D.Disk c.args.self _
    (written (MembersStay g.N.NodeModel g.D.Disk) c.args.self.members _ c.end_faults.new.members write.value len c.end_faults.ensures.stays) (λ xs at. at)
    (λ xs at. at)

pub returns-clause-ended : goal.returns-clause-ended
returns-clause-ended g c =
    let write = c.as_mut_slice.ensures in
    let len : length c.end_faults.new.members ≡ vec_len c.args.self.members = omega (arith, c.end_faults.auto.members, write.len) in
    subst AreFaultless (sym (with_items_is c.args.self.members c.end_faults.new.members len)) c.end_faults.ensures.ended
