use Rattle.std.proofs.Common.{◌≤◌, [], ◌∷◌, ◌++◌, length, ap, ◌∙◌, arith}
use Rattle.std.proofs.lemmas.Option.{slice_get_read}
use Rattle.report_text.specs.inside.Numbers.{numbered}
use Rattle.report_text.proofs.Numbers.{one_taken, all_taken}
use Rattle.report_text.proofs.by_number.ByNumber.rows.Goals as goal

pub loop-number-preserved : goal.loop-number-preserved
loop-number-preserved g c =
    let n = c.loop-number.number in
    let vs = c.deref-value-items.result.now in
    c.in_ok-push.ensures.items
    ∙ ap (λ es. es ++ (n, c.value-item.result) ∷ []) c.loop-number.invariant
    ∙ one_taken n vs c.value-item.result (slice_get_read vs (length vs) n c.value-item.result (omega arith) c.loop-number-test.true c.value-item.is)

pub loop-number-2-init : goal.loop-number-2-init
loop-number-2-init g c =
    let i = c.self.inside in
    let vs = c.deref-value-items.result.now in
    let past : length vs ≤ c.loop-number.number = omega (arith, c.loop-number-test.false) in
    ap (λ es. es ++ c.into_iter-number-iterator.result) (c.loop-number.invariant ∙ ap (numbered 0) (all_taken c.loop-number.number vs past ∙ c.deref-value-items.ensures.value))
    ∙ ap (λ es. numbered 0 i.first.items ++ es) (c.into_iter-number-iterator.ensures.into_iter_gives ∙ c.iter-number-items.ensures.rest)
    ∙ c.self.view_is
