use Rattle.std.proofs.Common.{ap, sym, subst, ◌≤◌, ◌∙◌}
use Rattle.submit_desk.proofs.Moves.{splits}
use Rattle.submit_desk.proofs.desk.Desk.split_as.Goals as goal

pub another-requires-clause-rule : goal.another-requires-clause-rule
another-requires-clause-rule g c =
    let may = ap (λ v. v.knows.takes) c.pass.view_is ∙ c.requires.takes in
    let next = ap (λ v. v.knows.next) c.pass.view_is in
    let above = subst (λ n. c.pass.inside.pass.me.0.client.next ≤ n) c.requires.number (subst (λ n. n ≤ c.args.by) (sym next) c.requires.by.1) in
    splits _ _ _ may above
