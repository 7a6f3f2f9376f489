use Rattle.std.proofs.Common.{◌≡◌, ℕ, suc, ◌-◌, Some, sym, ap, ◌∙◌, arith}
use Rattle.std.specs.List.{slice_get}
use Rattle.net_model.specs.inside.Kept.{sends_before, marks_before}
use Rattle.net_model.proofs.Reading.{sends_follow, marks_follow}
use Rattle.net_model.proofs.columns.Columns.starts.Goals as goal

pub returns-in-Some : goal.returns-in-Some
returns-in-Some c =
    let steps = c.args.self.now.steps in
    let there : slice_get steps (c.args.index - 1) ≡ Some c.in-Some.before = sym c.get.ensures ∙ c.in-Some.is in
    let at : suc (c.args.index - 1) ≡ c.args.index = omega (arith, c.if-index-eq0.false) in
    let sends = sym (sends_follow 0 steps (c.args.index - 1) c.in-Some.before there) ∙ ap (sends_before 0 steps) at in
    let marks = sym (marks_follow 0 steps (c.args.index - 1) c.in-Some.before there) ∙ ap (marks_before 0 steps) at in
    cc
