use Rattle.std.proofs.Common.{◌++◌, length, sym, ap, subst, ◌∙◌}
use Rattle.std.specs.List.{AllByRecursion}
use Rattle.report_text.specs.inside.Telling.{IsValidTold}
use Rattle.report_text.specs.inside.Gathering.{Gathered, gathered_lines}
use Rattle.report_text.proofs.Gatherings.{valid_told, gathered_lines_is}
use Rattle.report_text.proofs.reporting.report.Goals as goal

pub write-requires-clause-valid : goal.write-requires-clause-valid
write-requires-clause-valid c =
    subst (λ (g : Gathered). AllByRecursion IsValidTold g.told) (sym c.in_ok-gathered.ensures) (valid_told c.args.cfg.now c.args.history.now c.requires.messages)

pub returns : goal.returns
returns c =
    let cfg = c.args.cfg.now in
    let history = c.args.history.now in
    c.in_ok-write.ensures ∙ ap (λ text. text ++ gathered_lines cfg c.len.result c.in_ok-gathered.gathered) c.new-text.ensures
    ∙ ap (λ entries. gathered_lines cfg entries c.in_ok-gathered.gathered) c.len.ensures
    ∙ ap (λ (g : Gathered). gathered_lines cfg (length history) g) c.in_ok-gathered.ensures
    ∙ gathered_lines_is cfg history
