use Rattle.std.proofs.Common.{length, ap, ◌∙◌}
use Rattle.lease_window.specs.Known.{KnownEntries}
use Rattle.lease_window.proofs.KnownLemmas.{known_slots}
use Rattle.lease_window.proofs.known.Known.count.Goals as goal

pub returns-clause-count : goal.returns-clause-count
returns-clause-count c =
    c.slots.ensures.slots ∙ (known_slots c.self.inside c.self.invariant ∙ ap (λ (k : KnownEntries). length k.entries) c.self.view_is)
