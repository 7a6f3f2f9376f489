use Rattle.lease_window.proofs.KnownLemmas.{known_agreed, known_consistent, known_numbered}
use Rattle.lease_window.proofs.LeaseLemmas.{lease_position, lease_window, lease_within, lease_owner, lease_limit}
use Rattle.lease_window.proofs.known.Known.leased.Goals as goal

pub find_lease-requires-clause-numbers : goal.find_lease-requires-clause-numbers
find_lease-requires-clause-numbers c = known_numbered c.self.inside c.self.invariant

pub returns-clause-position : goal.returns-clause-position
returns-clause-position c =
    rw (known_agreed c.self.inside c.args.self.now c.self.view_is c.self.invariant, c.find_lease.ensures)
    (lease_position c.self.inside.agreed c.args.shard c.args.local (known_consistent c.self.inside c.self.invariant) (known_numbered c.self.inside c.self.invariant))

pub returns-clause-window : goal.returns-clause-window
returns-clause-window c =
    rw (known_agreed c.self.inside c.args.self.now c.self.view_is c.self.invariant, c.find_lease.ensures)
    (lease_window c.self.inside.agreed c.args.shard c.args.local)

pub returns-clause-within : goal.returns-clause-within
returns-clause-within c =
    rw (known_agreed c.self.inside c.args.self.now c.self.view_is c.self.invariant, c.find_lease.ensures)
    (lease_within c.self.inside.agreed c.args.shard c.args.local (known_consistent c.self.inside c.self.invariant) (known_numbered c.self.inside c.self.invariant))

pub returns-clause-owner : goal.returns-clause-owner
returns-clause-owner c =
    rw (known_agreed c.self.inside c.args.self.now c.self.view_is c.self.invariant, c.find_lease.ensures)
    (lease_owner c.self.inside.agreed c.args.shard c.args.local (known_consistent c.self.inside c.self.invariant))

pub returns-clause-limit : goal.returns-clause-limit
returns-clause-limit c =
    rw c.find_lease.ensures (lease_limit c.self.inside.agreed c.args.shard c.args.local (known_consistent c.self.inside c.self.invariant) c.self.invariant.few)
