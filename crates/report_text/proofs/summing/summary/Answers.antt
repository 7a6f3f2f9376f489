use Rattle.std.proofs.Common.{◌++◌, ap, ◌∙◌}
use Rattle.report_text.specs.inside.Gathering.{Gathered}
use Rattle.report_text.specs.inside.Summing.{summed_lines}
use Rattle.report_text.proofs.Summations.{summed_lines_is}
use Rattle.report_text.proofs.summing.summary.Goals as goal

pub returns : goal.returns
returns c =
    let cfg = c.args.cfg.now in
    c.in_ok-write_summary.ensures ∙ ap (λ text. text ++ summed_lines cfg c.args.quiet c.in_ok-gathered.gathered) c.new-text.ensures
    ∙ ap (λ (g : Gathered). summed_lines cfg c.args.quiet g) c.in_ok-gathered.ensures
    ∙ summed_lines_is cfg c.args.quiet c.args.history.now
