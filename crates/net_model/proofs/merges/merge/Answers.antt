use Rattle.std.proofs.Common.{map, ap, ◌∙◌}
use Rattle.net_model.specs.Merges.{entry_of, values_of}
use Rattle.net_model.proofs.Results.{at_ok}
use Rattle.net_model.proofs.Histories.{merge_of_steps}
use Rattle.net_model.proofs.merges.merge.Goals as goal

pub returns-clause-merge : goal.returns-clause-merge
returns-clause-merge c =
    let steps = values_of c.in_ok-steps.steps.items in
    at_ok _ _ c.history_of.result
    (λ history is. merge_of_steps c.args.journals.now steps history c.requires.distinct c.in_ok-steps.ensures
    (is ∙ ap (λ l. map entry_of (values_of l)) c.as_slice.ensures.value))
    c.history_of.ensures
