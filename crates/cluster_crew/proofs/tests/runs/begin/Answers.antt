use Rattle.std.proofs.Common.{ap, refl, ◌∙◌}
use Rattle.cluster_crew.specs.declared.member.Side.TheVariants as sides
use Rattle.cluster_crew.proofs.ToyCrews.{begins}
use Rattle.cluster_crew.proofs.tests.runs.begin.Goals as goal

pub returns : goal.returns
returns g c =
    let made = c.in_ok-made in
    let shown = c.in_ok-shown in
    let first = c.in_ok-first in
    let second = c.in_ok-second in
    let third = c.in_ok-third in
    begins _ _ made.made.1.desk shown.shown.0.cell c.args.plan.now made.made.0.items _ first.first second.second third.third shown.shown.1
    made.made.1 shown.shown.0
    c.in_ok-members.ensures c.in_ok-readers.ensures made.ensures.submitters first.ensures.new second.ensures.new third.ensures.new first.ensures.name
    second.ensures.name third.ensures.name first.ensures.side second.ensures.side (third.ensures.side ∙ ap sides.Consumer c.new-showing.ensures) refl
    made.ensures.takes refl shown.ensures.publisher shown.ensures.reader made.ensures.desks c.requires.readers c.requires.submitters
