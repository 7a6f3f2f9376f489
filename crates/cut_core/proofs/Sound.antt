-- Every list of entries leaves what `IsSound` says.
use Rattle.std.proofs.Common.{◌≡◌, ℕ, ◌+◌, ◌<◌, ◌≤◌, ◌==◌, ◌||◌, Bool, true, false, not, List, [], ◌∷◌, length, Option, Some, None, refl, sym, ap, ◌∙◌, subst, inl, inr, arith}
use Rattle.std.specs.Prelude.{nat_lt, if◌then◌else◌}
use Rattle.std.specs.List.{AllByRecursion}
use Rattle.std.proofs.lemmas.Bool.{cases_Bool, cond-true, cond-false, eqb-true, eqb-false, ltb-true, not-false, both_ways, true≢false}
use Rattle.quota_table.specs.declared.rows.Row.{Row}
use Rattle.quota_table.specs.declared.entry.Entry.{Entry}
use Rattle.quota_table.specs.declared.entry.Entry.TheVariants.{Nothing, Cut, Table, Remove}
use Rattle.quota_table.specs.Rows.{IsTable, has_shard}
use Rattle.fix_ante.specs.Windows.{Window, has_row, first_of}
use Rattle.cut_core.specs.declared.effects.Reason.{Reason}
use Rattle.cut_core.specs.declared.effects.Reason.TheVariants.{WrongWindow, WrongRound, NoGrant, NotARow, LastShard}
use Rattle.cut_core.specs.Agreements.{Agreement, agreement_from, is_gone, gone_row, is_last_round}
use Rattle.cut_core.specs.Reasons.{grant_fault, gone_fault, granted_fault, fault_of}
use Rattle.cut_core.specs.Fold.{with_round, open_granted, after_cut, after_entry, unless_void, applied, applied_all, fold_of, HasValidTable}
use Rattle.cut_core.specs.Soundness.{MayBeGrant, IsSound}
use Rattle.cut_core.proofs.Kept.{IsSound_first, IsSound_round, IsSound_opened, IsSound_table, IsSound_remove, IsSound_passed}

-- ---- what it means that there is no fault

pub no_fault : (b : Bool) (r : Reason) (later : Option Reason) → (if b then Some r else later) ≡ None → (b ≡ false) × (later ≡ None)
no_fault true r later e = absurd (cc)
no_fault false r later e = (refl, e)

pub no_last : (b : Bool) → (if b then None else Some LastShard) ≡ None → b ≡ true
no_last true e = refl
no_last false e = absurd (cc)

pub no_granted : (g : Option Window) (later : Option Reason) → granted_fault g later ≡ None → later ≡ None
no_granted None later e = e
no_granted (Some w) later e = absurd (cc)

pub no_gone : (o : Option ℕ) → gone_fault o ≡ None → o ≡ None
no_gone None e = refl
no_gone (Some shard) e = absurd (cc)

no_gone_row : (b : Bool) (shard : ℕ) (later : Option ℕ) → (if b then Some shard else later) ≡ None → (b ≡ false) × (later ≡ None)
no_gone_row true shard later e = absurd (cc)
no_gone_row false shard later e = (refl, e)

-- where no row's shard is gone, no shard of the rows is
pub gone_row_none : (a : Agreement) (rows : List Row) (shard : ℕ) → gone_row a rows ≡ None → has_shard shard rows ≡ true → is_gone a shard ≡ false
gone_row_none a [] shard e has = absurd (true≢false (sym has))
gone_row_none a (r ∷ rs) shard e has =
    let parts = no_gone_row (is_gone a r.shard) r.shard (gone_row a rs) e in
    elim (cases_Bool (r.shard == shard)) [
      | inl same ↦ ap (is_gone a) (sym (eqb-true r.shard shard same)) ∙ parts.0
      | inr other ↦ gone_row_none a rs shard parts.1 (sym (ap (λ t. t || has_shard shard rs) other) ∙ has)
    ]

-- ---- one entry more

open_step : (a : Agreement) (g : Option Window) → IsSound a → MayBeGrant a g → is_last_round a ≡ true → grant_fault (is_last_round a) g ≡ None
    → IsSound (record (open_granted (with_round a) g) { slots = a.slots + 1 })
open_step a None is grant last fits = absurd (both_ways _ ((no_fault (is_last_round a) NoGrant None fits).0) last)
open_step a (Some w) is grant last fits = IsSound_opened a w is grant (eqb-true (a.rounds + 1) a.current.rounds last)

cut_step : (a : Agreement) → IsSound a → grant_fault (is_last_round a) a.granted ≡ None → IsSound (record (after_cut a) { slots = a.slots + 1 })
cut_step a is fits =
    elim (cases_Bool (is_last_round a)) [
      | inl last ↦
          let e : after_cut a ≡ open_granted (with_round a) a.granted = cond-true _ _ _ last in
          subst (λ (x : Agreement). IsSound (record x { slots = a.slots + 1 })) (sym e) (open_step a a.granted is is.grant last fits)
      | inr more ↦
          let e : after_cut a ≡ with_round a = cond-false _ _ _ more in
          let apart = eqb-false (a.rounds + 1) a.current.rounds more in
          subst (λ (x : Agreement). IsSound (record x { slots = a.slots + 1 })) (sym e) (IsSound_round a is (omega (arith, is.short, apart)))
    ]

fit_step : (a : Agreement) (entry : Entry) → IsSound a → a.slots < 1000000 → HasValidTable entry → fault_of a entry ≡ None
    → IsSound (record (after_entry a entry) { slots = a.slots + 1 })
fit_step a Nothing is below valid fits = IsSound_passed a is
fit_step a (Cut window round) is below valid fits =
    let named = no_fault (not (window == a.current.number)) (WrongWindow a.current.number) _ fits in
    let next = no_fault (not (round == a.rounds)) (WrongRound a.rounds) _ named.1 in
    cut_step a is next.1
fit_step a (Table after rounds rows) is below valid fits =
    let named = no_fault (not (after == a.current.number)) (WrongWindow a.current.number) _ fits in
    let free = no_gone (gone_row a rows) (no_granted a.granted _ named.1) in
    IsSound_table a rounds rows is below valid.0 valid.1 valid.2 (λ shard has. gone_row_none a rows shard free has)
fit_step a (Remove window shard) is below valid fits =
    let named = no_fault (not (window == a.current.number)) (WrongWindow a.current.number) _ fits in
    let row = no_fault (not (has_row shard a.current.spots)) (NotARow shard) _ named.1 in
    IsSound_remove a shard is below (not-false (has_row shard a.current.spots) row.0) (ltb-true 1 (length a.current.spots) (no_last (nat_lt 1 (length a.current.spots)) row.1))

entry_step : (a : Agreement) (entry : Entry) (fault : Option Reason) → IsSound a → a.slots < 1000000 → HasValidTable entry → fault_of a entry ≡ fault
    → IsSound (record (unless_void fault a (after_entry a entry)) { slots = a.slots + 1 })
entry_step a entry None is below valid e = fit_step a entry is below valid e
entry_step a entry (Some reason) is below valid e = IsSound_passed a is

-- each entry keeps it
pub IsSound_applied : (a : Agreement) (entry : Entry) → IsSound a → a.slots < 1000000 → HasValidTable entry → IsSound (applied a entry)
IsSound_applied a entry is below valid = entry_step a entry (fault_of a entry) is below valid refl

pub IsSound_applied_all : (a : Agreement) (entries : List Entry) → IsSound a → a.slots + length entries ≤ 1000000 → AllByRecursion HasValidTable entries
    → IsSound (applied_all a entries)
IsSound_applied_all a [] is below valid = is
IsSound_applied_all a (entry ∷ entries) is below valid =
    IsSound_applied_all (applied a entry) entries (IsSound_applied a entry is (omega arith) valid.0) (omega arith) valid.1

-- after any list of entries, from the first window on
pub IsSound_fold_of : (rounds : ℕ) (rows : List Row) (entries : List Entry) → 1 ≤ rounds → rounds ≤ 1024 → IsTable rows → length entries ≤ 1000000
    → AllByRecursion HasValidTable entries → IsSound (fold_of (first_of rounds rows) entries)
IsSound_fold_of rounds rows entries some most table below valid =
    IsSound_applied_all (agreement_from (first_of rounds rows)) entries (IsSound_first rounds rows some most table) (omega arith) valid
