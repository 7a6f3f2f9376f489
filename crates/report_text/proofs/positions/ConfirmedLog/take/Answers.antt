use Rattle.std.proofs.Common.{◌||◌, sym, ap, ◌∙◌}
use Rattle.std.proofs.lemmas.Result.{on_ok_weaker}
use Rattle.report_text.specs.Positions.{same_record}
use Rattle.report_text.proofs.Seen.{confirmed_new, confirmed_kept, confirmed_changed, or_true}
use Rattle.report_text.proofs.positions.ConfirmedLog.take.Goals.{then-known-via-then-known, then-known-via-else-known+then-is_same}
use Rattle.report_text.proofs.positions.ConfirmedLog.take.Goals as goal

pub returns-in_default : goal.returns-in_default
returns-in_default c =
    on_ok_weaker c.put.result (λ e. e ∙ confirmed_new c.self.inside.positions c.args.self.now c.args.position c.args.rec.now c.self.view_is (sym c.get.ensures ∙ c.in_default.is)) c.put.ensures

pub returns-then-known : goal.returns-then-known
returns-then-known c =
    let known = c.in-Some.known in
    confirmed_kept c.self.inside.positions c.args.self.now c.args.position c.args.rec.now known c.self.view_is (sym c.get.ensures ∙ c.in-Some.is)
    (elim c.then-known.branch [
      | then-known-via-then-known w ↦ ap (λ b. b || same_record known.first.now c.args.rec.now) w.if-known.true
      | then-known-via-else-known+then-is_same w ↦ or_true known.differs (same_record known.first.now c.args.rec.now) (sym w.is_same.ensures ∙ w.if-is_same.true)
    ])

pub returns : goal.returns
returns c =
    let known = c.in-Some.known in
    on_ok_weaker c.put-2.result (λ e. e ∙ confirmed_changed c.self.inside.positions c.args.self.now c.args.position c.args.rec.now known c.self.view_is (sym c.get.ensures ∙ c.in-Some.is)
    (ap (λ b. b || same_record known.first.now c.args.rec.now) c.if-known.false ∙ sym c.is_same.ensures ∙ c.if-is_same.false)) c.put-2.ensures
