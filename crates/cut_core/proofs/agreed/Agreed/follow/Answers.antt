use Rattle.std.proofs.Common.{◌+◌, ◌*◌, None, refl, ap, ◌∙◌}
use Rattle.fix_ante.specs.Windows.{width_of}
use Rattle.cut_core.specs.declared.agreed.Agreed.TheInside.{Inside}
use Rattle.cut_core.proofs.Follows.{follow_kept, IsAgreed_same}
use Rattle.cut_core.proofs.agreed.Agreed.follow.Goals as goal

pub invariant_of-self : goal.invariant_of-self
invariant_of-self c = IsAgreed_same c.self.inside _ refl c.reserve.ensures.items refl refl refl refl c.self.invariant

pub invariant_of-self-2 : goal.invariant_of-self-2
invariant_of-self-2 c =
    let w = c.self.inside.current in
    let width = c.from-2.ensures ∙ c.width.ensures.width in
    let end = ap (λ n. c.base.result + n * c.from-2.result) c.from.ensures ∙ ap (λ n. c.base.result + c.args.rounds * n) width ∙ ap (λ n. n + c.args.rounds * width_of w) c.base.ensures.base in
    (follow_kept c.self.inside _ c.args.self.now c.replace-window.result c.args.next c.args.rounds _ c.args.ends c.reserve.new.self.items c.self.view_is c.self.invariant c.requires.few c.requires.from c.requires.most
    c.replace-window.ensures.value c.replace-window.ensures.after c.reserve.ensures.items c.in-Ok.ensures.items end c.requires.ends c.requires.sound c.requires.settled refl refl refl).kept

pub returns-clause-ok : goal.returns-clause-ok
returns-clause-ok c =
    let w = c.self.inside.current in
    let width = c.from-2.ensures ∙ c.width.ensures.width in
    let end = ap (λ n. c.base.result + n * c.from-2.result) c.from.ensures ∙ ap (λ n. c.base.result + c.args.rounds * n) width ∙ ap (λ n. n + c.args.rounds * width_of w) c.base.ensures.base in
    let after : Inside = record { slots = c.self.inside.slots + 1; past = c.push.new.self; current = c.replace-window.new.dest; rounds = 0; granted = None; gone = c.args.gone } in
    (follow_kept c.self.inside after c.args.self.now c.replace-window.result c.args.next c.args.rounds _ c.args.ends c.reserve.new.self.items c.self.view_is c.self.invariant c.requires.few c.requires.from c.requires.most
    c.replace-window.ensures.value c.replace-window.ensures.after c.reserve.ensures.items c.in-Ok.ensures.items end c.requires.ends c.requires.sound c.requires.settled refl refl refl).view
