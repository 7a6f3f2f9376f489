use Rattle.std.proofs.Common.{◌≡◌, ◌+◌, ◌<◌, ◌≤◌, ◌++◌, length, sym, ap, ◌∙◌, arith}
use Rattle.std.specs.List.{slice_get}
use Rattle.std.proofs.lemmas.Bool.Decides.{nat_tests}
use Rattle.std.proofs.lemmas.Option.{slice_get_read}
use Rattle.report_text.specs.inside.Numbers.{numbered}
use Rattle.report_text.proofs.Keyed.{find}
use Rattle.report_text.proofs.Numbers.{find_first, find_rest}
use Rattle.report_text.proofs.by_number.ByNumber.get.Goals as goal

pub returns-in-Some : goal.returns-in-Some
returns-in-Some g c =
    let i = c.self.inside in
    let below : c.args.number < length c.deref.result.now = grind (arith, nat_tests, c.in-Some.ensures.lookup.0) in
    let within : c.args.number < length i.first.items = omega (arith, below, ap length c.deref.ensures.value) in
    let at : 0 + c.args.number ≡ c.args.number = omega arith in
    let read = slice_get_read c.deref.result.now (length c.deref.result.now) c.args.number c.in-Some.value.now (omega arith) below c.in-Some.ensures.lookup.1 in
    sym read
    ∙ ap (λ xs. slice_get xs c.args.number) c.deref.ensures.value
    ∙ sym (find_first 0 i.first.items i.rest.entries c.args.number within)
    ∙ ap (λ q. find q (numbered 0 i.first.items ++ i.rest.entries)) at
    ∙ ap (find c.args.number) c.self.view_is

pub returns-in-None : goal.returns-in-None
returns-in-None g c =
    let i = c.self.inside in
    let past : length c.deref.result.now ≤ c.args.number = grind (arith, nat_tests, c.in-None.ensures.lookup) in
    let beyond : 0 + length i.first.items ≤ c.args.number = omega (arith, past, ap length c.deref.ensures.value) in
    c.copied.ensures
    ∙ c.get-in-None.ensures.value
    ∙ sym (find_rest 0 i.first.items i.rest.entries c.args.number beyond)
    ∙ ap (find c.args.number) c.self.view_is
