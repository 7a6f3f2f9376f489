use Rattle.std.proofs.Common.{◌≡◌, true, false, sym, ap, ◌∙◌}
use Rattle.std.specs.Option.{is_some}
use Rattle.std.specs.BTreeMap.{insert_entry}
use Rattle.std.specs.Ordering.{nat_cmp}
use Rattle.std.proofs.lemmas.Result.{on_ok_weaker}
use Rattle.report_text.proofs.Keyed.{find}
use Rattle.report_text.proofs.Seen.{told_new, told_kept}
use Rattle.report_text.proofs.slots.ToldSlots.take.Goals as goal

pub returns-in-None : goal.returns-in-None
returns-in-None c =
    let same : c.from-slot.result ≡ c.args.slot = c.from-slot.ensures in
    let none : is_some (find c.args.slot c.self.inside.0) ≡ false = ap (λ n. is_some (find n c.self.inside.0)) (sym same) ∙ ap is_some (sym c.get.ensures ∙ c.in-None.is) in
    on_ok_weaker c.put.result (λ put. told_new c.self.inside.0 c.put.new.self c.args.self.now c.args.slot c.args.entry c.self.view_is none (put ∙ ap (λ n. insert_entry nat_cmp c.self.inside.0 n c.args.entry) same)) c.put.ensures

pub returns-in-Some : goal.returns-in-Some
returns-in-Some c =
    let same : c.from-slot.result ≡ c.args.slot = c.from-slot.ensures in
    let some : is_some (find c.args.slot c.self.inside.0) ≡ true = ap (λ n. is_some (find n c.self.inside.0)) (sym same) ∙ ap is_some (sym c.get.ensures ∙ c.in-Some.is) in
    told_kept c.self.inside.0 c.args.self.now c.args.slot c.args.entry.now c.self.view_is some
