use Rattle.std.proofs.Common.{rules, ◌≡◌, [], ◌∷◌, ◌++◌, ap, sym, ◌∙◌}
use Rattle.view_cell.proofs.Adding.{adds_moves}
use Rattle.view_cell.proofs.Rising.{newest_more, history_more}
use Rattle.view_cell.proofs.history.written.Goals as goal

pub compare_exchange-found-requires : goal.compare_exchange-found-requires
compare_exchange-found-requires c =
    let h = c.requires.word in
    let same = ap (λ s. s.book) c.again-seen.ensures in
    let offer = c.plain-offer.ensures in
    let pen = c.no_pen-pen.ensures in (
      ap (λ w. w.tracked) h,
      same ∙ sym (ap (λ w. w.book) h),
      pen.0 ∙ (same ∙ sym (ap (λ w. w.book) h)),
      offer.0,
      rw (ap (λ w. w.key) h, pen.1, offer.1, offer.3, ap (λ s. s.log) c.again-seen.ensures) (adds_moves c.args.shown.now.seen.log c.args.shown.now.look c.args.next c.args.shown.now.newest c.requires.next),
    )

pub invariant_of-result : goal.invariant_of-result
invariant_of-result c =
    let added : c.compare_exchange-found.new.seen.log ≡ c.args.shown.now.seen.log ++ c.args.next ∷ [] = search rules in
    record { newest = rw added (newest_more c.args.shown.now.seen.log c.args.next) }

pub returns-then-found-last-clause-history : goal.returns-then-found-last-clause-history
returns-then-found-last-clause-history c =
    let added : c.compare_exchange-found.new.seen.log ≡ c.args.shown.now.seen.log ++ c.args.next ∷ [] = search rules in
    rw added (history_more c.args.shown.now.seen.log c.args.shown.now.look c.args.next c.requires.history c.args.shown.now.newest c.requires.next)
