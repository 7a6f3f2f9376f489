-- A family of entries with one of them changed, and lists with one more member.
use Rattle.std.proofs.Common.{◌≡◌, ℕ, List, ◌∷◌, Contains, inl, inr, sym, subst}
use Rattle.std.proofs.lemmas.Bool.Decides.{eqb_tells}
use Rattle.majority.specs.Votes.{Vote, HasVote}
use Rattle.majority.specs.Slot.{with_entry}
use Rattle.majority.proofs.Lists.{Contains_cases}

module _ {X : Type 0} where
  pub with_entry_other : (i j : ℕ) (x : X) (entries : ℕ → X) → (j ≡ i → ⊥) → with_entry i x entries j ≡ entries j
  with_entry_other i j x entries other =
      elim (eqb_tells j i) [
        | inl same ↦ absurd (other same.1)
        | inr apart ↦ rw apart.0
      ]

  -- what holds of the changed entry, and of each other one, holds of all
  pub with_entry_cases : (P : ℕ → X → Type 0) (i : ℕ) (x : X) (entries : ℕ → X) → P i x → ((j : ℕ) → (j ≡ i → ⊥) → P j (entries j)) → (j : ℕ)
      → P j (with_entry i x entries j)
  with_entry_cases P i x entries here others j =
      elim (eqb_tells j i) [
        | inl same ↦ rw same.0 (subst (λ k. P k x) (sym same.1) here)
        | inr apart ↦ rw apart.0 (others j apart.1)
      ]

  -- what holds of the newest member, and of each earlier one, holds of all
  pub Contains_elim : (P : X → Type 0) (x : X) (xs : List X) → P x → ((y : X) → Contains xs y → P y) → (y : X) → Contains (x ∷ xs) y → P y
  Contains_elim P x xs here later y member =
      elim (Contains_cases x y xs member) [
        | inl same ↦ subst P same here
        | inr old ↦ later y old
      ]

module _ {V : Type 0} where
  -- what holds of the newest vote, and of each earlier one, holds of all
  pub HasVote_elim : (P : ℕ → ℕ → V → Type 0) (i b : ℕ) (v : V) (votes : List (Vote V)) → P i b v → ((j c : ℕ) (w : V) → HasVote votes j c w → P j c w) →
      (j c : ℕ) (w : V) → HasVote (record { replica = i; ballot = b; value = v } ∷ votes) j c w → P j c w
  HasVote_elim P i b v votes here later j c w vote =
      let Q : Vote V → Type 0 = λ x. P x.replica x.ballot x.value in
      elim (Contains_cases (record { replica = i; ballot = b; value = v }) (record { replica = j; ballot = c; value = w }) votes vote) [
        | inl same ↦ subst Q same here
        | inr old ↦ later j c w old
      ]
