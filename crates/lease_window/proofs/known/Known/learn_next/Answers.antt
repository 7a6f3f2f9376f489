use Rattle.std.proofs.Common.{◌≡◌, List, [], ◌∷◌, ◌++◌, length, refl, sym, ap, ◌∙◌, arith}
use Rattle.quota_table.specs.declared.entry.Entry.{Entry}
use Rattle.lease_window.specs.Known.{KnownEntries}
use Rattle.lease_window.proofs.KnownLemmas.{known_slots, IsKnown_applied}
use Rattle.lease_window.proofs.known.Known.learn_next.Goals as goal

pub apply-requires-clause-slot : goal.apply-requires-clause-slot
apply-requires-clause-slot c =
    c.requires.next ∙ (ap (λ (k : KnownEntries). length k.entries) (sym c.self.view_is) ∙ sym (known_slots c.self.inside c.self.invariant))

pub invariant_of-self-2 : goal.invariant_of-self-2
invariant_of-self-2 c =
    let slots = known_slots c.self.inside c.self.invariant in
    let count : length c.self.inside.entries.items ≡ length c.args.self.now.entries = ap (λ (k : KnownEntries). length k.entries) c.self.view_is in
    let items = c.in-Ok.ensures.items ∙ (ap (λ (es : List Entry). es ++ c.in_ok-learned.learned ∷ []) c.in_ok-reserve.ensures.items ∙ ap (λ (e : Entry). c.self.inside.entries.items ++ e ∷ []) c.in_ok-learned.ensures) in
    IsKnown_applied c.self.inside _ c.args.entry.now c.self.invariant (omega (arith, c.requires.next)) c.requires.table refl items c.in_ok-effect.ensures.ok
