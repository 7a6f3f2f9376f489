use Rattle.std.proofs.Common.{ap, ◌∙◌}
use Rattle.cut_core.specs.Agreements.{Agreement}
use Rattle.cut_core.proofs.Reach.{IsSettled_view, granted_reach, lent_IfSome}
use Rattle.cut_core.proofs.agreed.Agreed.granted.Goals as goal

pub returns-clause-end : goal.returns-clause-end
returns-clause-end c =
    let is = IsSettled_view c.self.inside c.args.self.now c.self.view_is c.self.invariant in
    lent_IfSome c.as_ref.result c.args.self.now.granted (c.as_ref.ensures.value ∙ ap (λ (a : Agreement). a.granted) c.self.view_is) (granted_reach c.args.self.now is.sound is.few)
