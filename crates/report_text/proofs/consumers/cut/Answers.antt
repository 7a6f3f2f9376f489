use Rattle.std.proofs.Common.{map, Bor, sym, ap, ◌∙◌}
use Rattle.std.proofs.lemmas.List.{take-map}
use Rattle.runs.specs.Names.{Record}
use Rattle.report_text.proofs.consumers.cut.Goals as goal

pub returns-clause-log : goal.returns-clause-log
returns-clause-log c = ap (map (λ (r : Bor Record). r.now)) c.truncate.ensures.items ∙ sym (take-map (λ (r : Bor Record). r.now) _ _)
