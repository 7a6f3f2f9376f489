use Rattle.std.proofs.Common.{◌≡◌, refl, arith}
use Rattle.majority.proofs.FewJournals.{two_replicas}
use Rattle.majority.proofs.tests.journals_of_a_majority_are_recovered.Goals as goal

pub recover-requires-clause-replicas : goal.recover-requires-clause-replicas
recover-requires-clause-replicas g c =
    let first : c.in_ok-zero.zero.replica ≡ 0 = c.in_ok-zero.ensures in
    let second : c.in_ok-two.two.replica ≡ 2 = c.in_ok-two.ensures in
    two_replicas 3 c.in_ok-zero.zero c.in_ok-two.two (omega arith) (omega arith) (rw (first, second) refl)
