use Rattle.std.proofs.Common.{ap, ◌∙◌}
use Rattle.submit_desk.proofs.Moves.{takes, accounts}
use Rattle.submit_desk.proofs.desk.Desk.take.Goals as goal

pub pop_as-requires-clause-rule : goal.pop_as-requires-clause-rule
pop_as-requires-clause-rule g c = let may = ap (λ v. v.knows.takes) c.pass.view_is ∙ c.requires.takes in (takes _ _ may, accounts _ _ may)
