use Rattle.std.proofs.Common.{length, ap, sym, ◌∙◌}
use Rattle.submit_desk.proofs.Moves.{submits, lies}
use Rattle.submit_desk.proofs.desk.Desk.submit.Goals as goal

pub push_as-pushed-requires-clause-rule : goal.push_as-pushed-requires-clause-rule
push_as-pushed-requires-clause-rule g c =
    let may = ap (λ v. v.knows.submits) c.pass.view_is ∙ c.requires.submits in
    let own = c.requires.by ∙ sym (ap (λ v. v.knows.by) c.pass.view_is) in
    let number = c.requires.number ∙ sym (ap (λ v. length v.knows.put) c.pass.view_is) in
    (submits _ _ _ _ may own number, lies _ _ may)
