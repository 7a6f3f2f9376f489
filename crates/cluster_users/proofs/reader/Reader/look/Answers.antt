use Rattle.std.proofs.Common.{refl, ap, ◌∙◌}
use Rattle.cluster_users.specs.Noting.{noted}
use Rattle.cluster_users.proofs.Looking.{reading_more, reading_on, looked_once}
use Rattle.cluster_users.proofs.reader.Reader.look.Goals as goal

pub invariant_of-self : goal.invariant_of-self
invariant_of-self c =
    let now = c.look-look.ensures in
    reading_more _ _ c.self.invariant now.goes_on now.rises now.newest (c.in-Ok.ensures.ok ∙ ap (noted _) now.look)

pub invariant_of-self-in-Err : goal.invariant_of-self-in-Err
invariant_of-self-in-Err c = let now = c.look-look.ensures in reading_on _ _ c.self.invariant now.goes_on now.rises c.in-Err.ensures.err

pub returns-in-Ok : goal.returns-in-Ok
returns-in-Ok c =
    let now = c.look-look.ensures in
    looked_once _ _ _ c.self.view_is c.self.invariant (refl, refl, now.cell) refl refl now.goes_on now.rises now.newest
    (c.in-Ok.ensures.ok ∙ ap (noted _) now.look)
