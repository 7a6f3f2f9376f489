-- Of reported acceptances the one of the greatest ballot, and what journals tell of a slot.
use Rattle.std.proofs.Common.{◌≡◌, ℕ, zero, suc, ◌+◌, ◌<◌, ◌≤◌, List, [], ◌∷◌, ◌++◌, length, Option, Some, None, slice_get, refl, sym, ◌∙◌, All, arith, inl, inr}
use Rattle.std.proofs.lemmas.Bool.Decides.{nat_tests}
use Rattle.std.proofs.lemmas.Bool.{cases_lt}
use Rattle.std.proofs.lemmas.List.Elements.{All-head, All-tail}
use Rattle.std.proofs.lemmas.Option.{slice_get_past}
use Rattle.majority.specs.Proposers.{greater_report}
use Rattle.majority.specs.Journals.{greatest_at, value_told}
use Rattle.majority.specs.declared.journal.VoteJournal.{VoteJournal}

module _ {V : Type 0} where
  pub greater_report_none : (report : Option (ℕ × V)) → greater_report report None ≡ report
  greater_report_none None = refl
  greater_report_none (Some report) = refl

  pub greater_report_assoc : (a b c : Option (ℕ × V)) → greater_report (greater_report a b) c ≡ greater_report a (greater_report b c)
  greater_report_assoc None b c = refl
  greater_report_assoc (Some a) None c = refl
  greater_report_assoc (Some a) (Some b) None = greater_report_none (greater_report (Some a) (Some b))
  greater_report_assoc (Some a) (Some b) (Some c) = grind (arith, nat_tests)

  pub greatest_at_past : (slot : ℕ) (journals : List (VoteJournal V)) → All (λ (journal : VoteJournal V). length journal.votes ≤ slot) journals
      → greatest_at slot journals ≡ None
  greatest_at_past slot [] h = refl
  greatest_at_past slot (journal ∷ journals) h =
      let here : slice_get journal.votes slot ≡ None = slice_get_past journal.votes slot (All-head (λ (j : VoteJournal V). length j.votes ≤ slot) journal journals h) in
      let rest = greatest_at_past slot journals (All-tail (λ (j : VoteJournal V). length j.votes ≤ slot) journal journals h) in
      rw (here, rest) refl

  slice_get_push : (xs : List V) (x : V) (k : ℕ) → k < length xs → slice_get (xs ++ x ∷ []) k ≡ slice_get xs k
  slice_get_push [] x k h = absurd (omega arith)
  slice_get_push (y ∷ xs) x zero h = refl
  slice_get_push (y ∷ xs) x (suc k) h = slice_get_push xs x k (omega arith)

  slice_get_end : (xs : List V) (x : V) → slice_get (xs ++ x ∷ []) (length xs) ≡ Some x
  slice_get_end [] x = refl
  slice_get_end (y ∷ xs) x = slice_get_end xs x

  -- one more value told
  pub told_more : (journals : List (VoteJournal V)) (values : List V) (slot : ℕ) (vote : ℕ × V) →
      length values ≡ slot →
      ((k : ℕ) → k < slot → value_told k journals ≡ slice_get values k) →
      greatest_at slot journals ≡ Some vote →
      (k : ℕ) → k < slot + 1 → value_told k journals ≡ slice_get (values ++ vote.1 ∷ []) k
  told_more journals values slot vote count told here k within =
      elim (cases_lt k (length values)) [
        | inl earlier ↦ told k (omega arith) ∙ sym (slice_get_push values vote.1 k earlier)
        | inr last ↦
            let same : k ≡ length values = omega arith in
            let at_slot : k ≡ slot = omega arith in
            rw same (rw (count, here) (sym (rw (← count) (slice_get_end values vote.1))))
      ]
