use Rattle.std.proofs.Common.{rules, ◌≡◌, ◌∷◌}
use Rattle.node_links.proofs.Beside.{parts_more}
use Rattle.node_links.proofs.link_in.LinkIn.pull.Goals as goal

pub invariant_of-self : goal.invariant_of-self
invariant_of-self c =
    let first : c.self.inside.ready.items ≡ c.in-Some.frame ∷ c.pop_front.new.self.items = search rules in
    parts_more _ _ _ _ c.self.invariant first
