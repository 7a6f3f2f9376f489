-- The exchange that adds a look keeps the rule.
use Rattle.std.proofs.Common.{◌≡◌, ℕ, ◌<◌, ◌==◌, Bool, true, false, List, [], ◌∷◌, ◌++◌, length, refl, ap, sym, subst, arith, inl, None, Some}
use Rattle.std.proofs.lemmas.List.{append-nil}
use Rattle.std.proofs.lemmas.Bool.Decides.{nat_tests}
use mathlib.Core.List.{IsPrefix}
use prog.Atomic.{either}
use Rattle.logbook.specs.Pages.{Cell, cell, keeps, no_nib, step, Moves, Goes}
use Rattle.view_cell.specs.declared.look.Look.{Look}
use Rattle.view_cell.specs.Looks.{IsHistory, newest_of, last_number}
use Rattle.view_cell.specs.inside.History.{IsWritten, Adds}
use Rattle.view_cell.proofs.Rising.{history_whole, history_more, number_more}

abbrev pub shown : List Look → List Look
shown log = []

abbrev pub moved : List Look → List Look → ℕ → Type 0
moved xs ys n = Unit {0}

pub adds_goes : (log v : List Look) (x e : Look) → newest_of v ≡ Some x → x.ops < e.ops → IsHistory log → IsPrefix v log
    → (b : Bool) → (last_number 0 log == x.ops) ≡ b
    → Goes IsWritten shown moved 0 (v, (no_nib, None)) (λ n. either (n == x.ops) e.ops n) (Adds (step 0 x.ops e.ops e) (v, (no_nib, None))) ((last_number 0 log, true) ∷ []) log
adds_goes log v x e newest up history pre true is =
    let here : last_number 0 log ≡ x.ops = grind (arith, nat_tests) in
    let same : v ≡ log = history_whole v log x history pre newest here in
    let history' : IsHistory (log ++ e ∷ []) = history_more log x e history (subst (λ (l : List Look). newest_of l ≡ Some x) same newest) up in
    let n : either (last_number 0 log == x.ops) e.ops (last_number 0 log) ≡ last_number 0 (log ++ e ∷ []) = rw is (sym (number_more 0 log e)) in (
      keeps,
      e ∷ [],
      None,
      tt,
      record { words = ap (λ (k : ℕ). (k, true) ∷ []) n; history = history' },
      inl (refl, refl),
      rw is (ap (λ w. w ++ e ∷ []) (sym same)),
    )
adds_goes log v x e newest up history pre false is =
    let all : log ++ [] ≡ log = append-nil log in
    let n : either (last_number 0 log == x.ops) e.ops (last_number 0 log) ≡ last_number 0 (log ++ []) = rw is (ap (last_number 0) (sym all)) in (
      keeps,
      [],
      None,
      tt,
      record { words = ap (λ (k : ℕ). (k, true) ∷ []) n; history = subst IsHistory (sym all) history },
      inl (refl, refl),
      rw is tt,
    )

-- whatever the book is, the exchange adds the look to all that was seen, or finds another number
pub adds_moves : (v : List Look) (x e : Look) → newest_of v ≡ Some x → x.ops < e.ops
    → Moves IsWritten shown moved 0 (v, (no_nib, None)) (λ n. either (n == x.ops) e.ops n) (Adds (step 0 x.ops e.ops e) (v, (no_nib, None)))
adds_moves v x e newest up cs log kept pre away =
    let P : List Cell → Type 0 = λ c. (0 < length c) × ((cell c 0).1 ≡ true) × Goes IsWritten shown moved 0 (v, (no_nib, None)) (λ n. either (n == x.ops) e.ops n) (Adds (step 0 x.ops e.ops e) (v, (no_nib, None))) c log in
    subst P (sym kept.words) (omega arith, refl, adds_goes log v x e newest up kept.history pre (last_number 0 log == x.ops) refl)
