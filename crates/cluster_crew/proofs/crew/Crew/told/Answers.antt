use Rattle.std.proofs.Common.{◌≡◌, length, arith, sym, subst}
use Rattle.std.specs.Prelude.{vec_len}
use Rattle.cluster_crew.specs.Crews.{AreWatching, MembersStay}
use Rattle.cluster_crew.specs.Watching.{AllStay, IsReaderAt}
use Rattle.cluster_crew.proofs.Crews.{crew_of, written}
use Rattle.cluster_crew.proofs.crew.Crew.told.Goals as goal

pub tell_readers-result-requires : goal.tell_readers-result-requires
tell_readers-result-requires g c =
    subst (λ ms. AreWatching g.N.NodeModel g.D.Disk c.args.consumers.now ms c.as_mut_slice-2.result.now) (sym c.as_mut_slice.ensures.value)
    (subst (λ rs. AreWatching g.N.NodeModel g.D.Disk c.args.consumers.now c.args.self.members.items rs) (sym c.as_mut_slice-2.ensures.value) c.requires)

pub returns : goal.returns
returns g c =
    let told = c.tell_readers-result in
    let one = c.as_mut_slice.ensures in
    let two = c.as_mut_slice-2.ensures in
    let members : length told.new.members ≡ vec_len c.args.self.members = omega (arith, told.auto.members, one.len) in
    let readers : length told.new.readers ≡ vec_len c.args.self.readers = omega (arith, told.auto.readers, two.len) in
    crew_of g.N.NodeModel g.D.Disk c.args.self _
    (written (MembersStay g.N.NodeModel g.D.Disk) c.args.self.members _ told.new.members one.value members told.ensures.members)
    (written (AllStay IsReaderAt) c.args.self.readers _ told.new.readers two.value readers told.ensures.readers) (λ xs at. at)
