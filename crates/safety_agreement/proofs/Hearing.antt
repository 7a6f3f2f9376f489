-- A promise that an attempt hears while it still waits, and the promise of a sequencer that is alone: it reports what its own acceptor
-- has, so that the attempt needs no report of it.
use Rattle.std.proofs.Common.{◌≡◌, ◌∙◌, ℕ, ◌<◌, false, List, Contains, Option, Some, None, is_some, inl, inr, refl, sym, subst}
use Rattle.majority.specs.Proposers.{Attempt, with_heard}
use Rattle.majority.specs.Slot.{Message as SlotMessage, Promise, SlotState}
use Rattle.majority.specs.Agreement.{IsSound, AttemptStands, AttemptsAreUnvoted, AttemptsHavePromises}
use Rattle.majority.proofs.Heard as heard
use Rattle.majority.proofs.Heard.{HasPromises_heard}
use Rattle.majority.proofs.Members.{IsDistinct_with_replica, All_with_replica}
use Rattle.runs.specs.Names.{Entry}
use Rattle.safety_agreement.proofs.Mirrors.{changed}
use Rattle.safety_agreement.proofs.Machine.{attempt_sound, stands_there}

-- what was promised to an attempt
abbrev Promised : List (SlotMessage Entry) → Attempt Entry → ℕ → Option (ℕ × Entry) → Type 0
Promised sent a from report = Contains sent (Promise from a.ballot report)

abbrev pub IsPromise : List (SlotMessage Entry) → Attempt Entry → ℕ → Option (ℕ × Entry) → Type 0
IsPromise sent a = heard.IsPromise a.replica (Promised sent a)

none_of : {X : Type 0} (o : Option X) → is_some o ≡ false → o ≡ None
none_of None e = refl
none_of (Some x) e = absurd (cc)

module _ (n i : ℕ) (state : SlotState Entry) (within : i < n) (sound : IsSound n state) where
  promiser_below : (a : Attempt Entry) (from : ℕ) (report : Option (ℕ × Entry)) → state.attempts i ≡ Some a → IsPromise state.sent a from report → from < n
  promiser_below a from report stood is = elim is [
    | inl member ↦ (sound.agreed.messages (Promise from a.ballot report) member).within
    | inr own ↦ subst (λ (k : ℕ). k < n) (sym (own.0 ∙ (stands_there n i state within sound a stood).here)) within
  ]

  -- it waits on
  pub wait_sound : (from : ℕ) (report : Option (ℕ × Entry)) (a : Attempt Entry) → state.attempts i ≡ Some a → IsPromise state.sent a from report
      → is_some a.sending ≡ false
      → IsSound n (changed i (state.acceptors i) (Some (with_heard from report a)) state.votes state.sent state)
  wait_sound from report a stood is not_yet =
      let none = none_of a.sending not_yet in
      let was = stands_there n i state within sound a stood in
      let before : AttemptsAreUnvoted state.votes a.ballot × AttemptsHavePromises state.sent a =
      subst (λ s. AttemptStands state.votes state.sent n a s) none was.stands in
      attempt_sound n i state within sound (Some (with_heard from report a))
      (record {
        here = was.here;
        count = was.count;
        owned = was.owned;
        barred = was.barred;
        within = All_with_replica (λ k. k < n) from a.promises was.within (promiser_below a from report stood is);
        distinct = IsDistinct_with_replica from a.promises was.distinct;
        stands =
            subst (λ s. AttemptStands state.votes state.sent n (with_heard from report a) s) (sym none)
            (before.0, HasPromises_heard a.replica (Promised state.sent a) from report a is before.1);
      })
