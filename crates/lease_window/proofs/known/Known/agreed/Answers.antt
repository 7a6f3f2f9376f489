use Rattle.lease_window.proofs.KnownLemmas.{known_agreed, known_consistent}
use Rattle.lease_window.proofs.known.Known.agreed.Goals as goal

pub returns-clause-consistent : goal.returns-clause-consistent
returns-clause-consistent c =
    rw (known_agreed c.self.inside c.args.self.now c.self.view_is c.self.invariant) (known_consistent c.self.inside c.self.invariant)
