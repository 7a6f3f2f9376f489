use Rattle.std.proofs.Common.{◌≡◌, ◌+◌, ◌≤◌, [], ◌∷◌, ◌++◌, length, Result, Ok, Err, OnOk, refl, sym, ap, subst, ◌∙◌, arith}
use Rattle.std.specs.BTreeMap.{insert_entry}
use Rattle.std.specs.Ordering.{nat_cmp}
use Rattle.report_text.specs.inside.Numbers.{numbered, AreFrom}
use Rattle.report_text.proofs.Keyed.{all_insert}
use Rattle.report_text.proofs.Numbers.{put_first, put_rest, one_more, no_entries}
use Rattle.report_text.proofs.by_number.ByNumber.put.Goals as goal

anyway : {T E P : Type 0} (r : Result T E) → P → OnOk r P
anyway (Ok x) h = h
anyway (Err e) h = tt

pub returns-then-at-len : goal.returns-then-at-len
returns-then-at-len g c =
    let i = c.self.inside in
    let at : 0 + c.args.number ≡ c.args.number = omega arith in
    sym (put_first 0 i.first.items i.rest.entries c.args.number c.args.value (omega (arith, c.if-at-len.true, c.len.ensures)))
    ∙ ap (λ q. insert_entry nat_cmp (numbered 0 i.first.items ++ i.rest.entries) q c.args.value) at
    ∙ ap (λ es. insert_entry nat_cmp es c.args.number c.args.value) c.self.view_is

pub returns-then-is_empty : goal.returns-then-is_empty
returns-then-is_empty g c =
    let i = c.self.inside in
    let none : i.rest.entries ≡ [] = no_entries i.rest.entries (c.if-is_empty.ensures.0 refl) in
    let at : 0 + length i.first.items ≡ c.args.number = omega (arith, c.if-at-len-2.true, c.len-2.ensures) in
    ap (λ vs. numbered 0 vs ++ i.rest.entries) c.in_ok-push.ensures.items
    ∙ one_more 0 i.first.items i.rest.entries c.args.value
    ∙ ap (λ es. numbered 0 i.first.items ++ (0 + length i.first.items, c.args.value) ∷ es) none
    ∙ ap (λ q. numbered 0 i.first.items ++ (q, c.args.value) ∷ []) at
    ∙ ap (λ es. numbered 0 i.first.items ++ insert_entry nat_cmp es c.args.number c.args.value) (sym none)
    ∙ sym (put_rest 0 i.first.items i.rest.entries c.args.number c.args.value (omega (arith, at)))
    ∙ ap (λ es. insert_entry nat_cmp es c.args.number c.args.value) c.self.view_is

pub invariant_of-self-2 : goal.invariant_of-self-2
invariant_of-self-2 g c =
    let i = c.self.inside in
    let past : length i.first.items ≤ c.args.number = omega (arith, c.if-at-len.false, c.len.ensures) in
    subst (AreFrom (length i.first.items)) (sym c.in_ok-insert.ensures.entries) (all_insert (λ e. length i.first.items ≤ e.0) i.rest.entries c.args.number c.args.value past c.self.invariant)

pub returns : goal.returns
returns g c =
    let i = c.self.inside in
    let past : 0 + length i.first.items ≤ c.args.number = omega (arith, c.if-at-len.false, c.len.ensures) in
    anyway c.close_gap.result (c.close_gap.ensures
    ∙ ap (λ es. numbered 0 i.first.items ++ es) c.in_ok-insert.ensures.entries
    ∙ sym (put_rest 0 i.first.items i.rest.entries c.args.number c.args.value past)
    ∙ ap (λ es. insert_entry nat_cmp es c.args.number c.args.value) c.self.view_is)
