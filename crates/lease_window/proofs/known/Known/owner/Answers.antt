use Rattle.lease_window.proofs.KnownLemmas.{known_agreed, known_consistent, mapped_within, mapped_lease}
use Rattle.lease_window.proofs.known.Known.owner.Goals as goal

pub returns-clause-within : goal.returns-clause-within
returns-clause-within c =
    rw (known_agreed c.self.inside c.args.self.now c.self.view_is c.self.invariant, c.find_owner.ensures.owner)
    (mapped_within c.self.inside.agreed c.args.position)

pub returns-clause-lease : goal.returns-clause-lease
returns-clause-lease c =
    rw (known_agreed c.self.inside c.args.self.now c.self.view_is c.self.invariant, c.find_owner.ensures.owner)
    (mapped_lease c.self.inside.agreed c.args.position (known_consistent c.self.inside c.self.invariant))
