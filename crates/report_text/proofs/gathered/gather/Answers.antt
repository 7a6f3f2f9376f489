use Rattle.std.proofs.Common.{◌≡◌, suc, ◌+◌, take, fold, slice_get, sym, ap, ◌∙◌, arith}
use Rattle.std.specs.Option.{option_map_or}
use Rattle.net_model.specs.Pasts.{past_of, sent, shown}
use Rattle.report_text.specs.inside.Gathering.{Gathered, before_entries, with_entry}
use Rattle.report_text.proofs.Gatherings.{fold_next}
use Rattle.report_text.proofs.gathered.gather.Goals as goal

pub loop-index-preserved : goal.loop-index-preserved
loop-index-preserved c =
    let history = c.args.history.now in
    let start : Gathered = before_entries c.args.cfg.now (sent (past_of history)) (shown (past_of history)) in
    let next : suc c.loop-index.index ≡ c.loop-index.index + 1 = omega arith in
    c.in_ok-take_at.ensures ∙ ap (λ (g : Gathered). option_map_or (with_entry g) (slice_get history c.loop-index.index) g) c.loop-index.invariant
    ∙ sym (fold_next with_entry start history c.loop-index.index) ∙ ap (λ n. fold with_entry start (take n history)) next
