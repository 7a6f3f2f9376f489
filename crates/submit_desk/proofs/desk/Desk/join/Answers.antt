use Rattle.std.proofs.Common.{ap, ◌∙◌}
use Rattle.submit_desk.proofs.Moves.{joins, accounts}
use Rattle.submit_desk.proofs.desk.Desk.join.Goals as goal

pub absorb-requires-clause-rule : goal.absorb-requires-clause-rule
absorb-requires-clause-rule g c =
    joins _ _ _ _ (ap (λ v. v.knows.takes) c.pass.view_is ∙ c.requires.takes) (ap (λ v. v.knows.submits) c.other.view_is ∙ c.requires.submits)

pub learn_as-requires-clause-rule : goal.learn_as-requires-clause-rule
learn_as-requires-clause-rule g c = accounts _ _ (ap (λ v. v.takes) c.absorb.ensures.rule)
