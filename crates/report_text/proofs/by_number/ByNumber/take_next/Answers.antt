use Rattle.std.proofs.Common.{◌≡◌, ◌+◌, ◌∷◌, ◌++◌, length, sym, ap, subst, ◌∙◌, arith}
use Rattle.std.proofs.lemmas.List.Elements.{recursion_from_All}
use Rattle.std.specs.Ordering.{nat_cmp}
use Rattle.std.specs.declared.cmp.Ordering.TheVariants.{Less}
use Rattle.std.specs.BTreeMap.{keys}
use Rattle.report_text.specs.inside.Numbers.{numbered, AreFrom}
use Rattle.report_text.proofs.Numbers.{one_more, above, first_number}
use Rattle.report_text.proofs.by_number.ByNumber.take_next.Goals as goal

pub invariant_of-self-in-Some-pop_first : goal.invariant_of-self-in-Some-pop_first
invariant_of-self-in-Some-pop_first g c =
    let next = c.in-Some-pop_first.next in
    let rest = c.pop_first.new.self in
    let number : next.0 ≡ c.in-Some.number.now = first_number c.self.inside.rest.entries rest.entries next _ c.in-Some-pop_first.ensures.removal c.in-Some.ensures.first in
    let is : c.in-Some.number.now ≡ c.len-len.result = c.if-number-len.true in
    let end : next.0 + 1 ≡ length c.push_reserved.new.self.items = omega (arith, number, is, c.len-len.ensures, c.push_reserved.ensures.len) in
    subst (λ n. AreFrom n rest.entries) end (above next.0 rest.entries (recursion_from_All (λ k. nat_cmp next.0 k ≡ Less) (keys rest) c.in-Some-pop_first.ensures.all_above))

pub returns-in-Some-pop_first : goal.returns-in-Some-pop_first
returns-in-Some-pop_first g c =
    let next = c.in-Some-pop_first.next in
    let rest = c.pop_first.new.self in
    let first = c.reserve.new.self.items in
    let number : next.0 ≡ c.in-Some.number.now = first_number c.self.inside.rest.entries rest.entries next _ c.in-Some-pop_first.ensures.removal c.in-Some.ensures.first in
    let is : c.in-Some.number.now ≡ c.len-len.result = c.if-number-len.true in
    let at : 0 + length first ≡ next.0 = omega (arith, number, is, c.len-len.ensures) in
    ap (λ vs. numbered 0 vs ++ rest.entries) c.push_reserved.ensures.items
    ∙ one_more 0 first rest.entries next.1
    ∙ ap (λ q. numbered 0 first ++ (q, next.1) ∷ rest.entries) at
    ∙ ap (λ es. numbered 0 first ++ es) (sym c.in-Some-pop_first.ensures.removal)
    ∙ ap (λ vs. numbered 0 vs ++ c.self.inside.rest.entries) c.reserve.ensures.items
    ∙ c.self.view_is
