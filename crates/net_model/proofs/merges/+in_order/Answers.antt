use Rattle.std.proofs.Common.{◌≡◌, List, ap, ◌∙◌}
use Rattle.std.specs.Borrow.{Bor}
use Rattle.net_model.specs.declared.journal.Stamped.{Stamped}
use Rattle.net_model.specs.Journals.{OwnSteps}
use Rattle.net_model.specs.Merges.{comes_first, interleaved, values_of}
use Rattle.net_model.proofs.Results.{at_ok}
use Rattle.net_model.proofs.Merging.{of_one, of_halves, only_one}
use Rattle.net_model.proofs.merges.+in_order.Goals as goal

pub returns-in-len1 : goal.returns-in-len1
returns-in-len1 t c =
    let j : OwnSteps = c.only-item.result in
    let one = only_one c.args.journals.now j c.in-len1.len_at_least c.in-len1.len_below c.only-item.is in
    at_ok _ _ c.steps_of.result (λ all is. of_one c.args.journals.now j c.steps.result.now
    (values_of all.items) one c.steps.ensures.journal c.steps.ensures.steps is) c.steps_of.ensures

pub returns-in_ok-back-in_default : goal.returns-in_ok-back-in_default
returns-in_ok-back-in_default t c =
    let fs : List (Bor Stamped) = c.in_ok-front-in_default.front.items in
    let bs : List (Bor Stamped) = c.in_ok-back-in_default.back.items in
    let lent : interleaved comes_first (values_of c.as_slice.result.now) (values_of c.as_slice-in_default.result.now)
    ≡ interleaved comes_first (values_of fs) (values_of bs) =
    ap (λ l. interleaved comes_first (values_of l) (values_of c.as_slice-in_default.result.now)) c.as_slice.ensures.value
    ∙ ap (λ l. interleaved comes_first (values_of fs) (values_of l)) c.as_slice-in_default.ensures.value in
    at_ok _ _ c.interleaved.result
    (λ all is.
    of_halves c.args.journals.now c.split_at.result.0.now c.split_at.result.1.now (values_of fs) (values_of bs)
    (values_of all.items) c.split_at.ensures.by_index.0
    c.in_ok-front-in_default.ensures c.in_ok-back-in_default.ensures (is ∙ lent))
    c.interleaved.ensures
