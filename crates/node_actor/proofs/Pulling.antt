-- A pull of a link, among the links to a node.
use Rattle.std.proofs.Common.{◌≡◌, ap, ◌∙◌, List}
use Rattle.node_links.specs.declared.frame.Frame.{Frame}
use Rattle.node_links.specs.Links.{LinkName, Receiving}

abbrev receiving : LinkName → List Frame → List Frame → Receiving
receiving link received waiting = record { link = link; received = received; waiting = waiting }

pub receiving_is : (a b : Receiving) → a.link ≡ b.link → a.received ≡ b.received → a.waiting ≡ b.waiting → a ≡ b
receiving_is a b link received waiting =
    ap (λ l. receiving l a.received a.waiting) link ∙ ap (λ r. receiving b.link r a.waiting) received ∙ ap (receiving b.link b.received) waiting
