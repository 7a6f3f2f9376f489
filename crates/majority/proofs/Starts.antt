-- A start keeps the invariant of one slot, and so does the loss of an attempt.
use Rattle.std.proofs.Common.{◌≡◌, ℕ, suc, ◌%◌, ◌<◌, ◌==◌, Bool, true, false, List, [], ◌∷◌, Option, Some, None, is_none, unwrap_or, max, All, Contains, inl, inr, refl, sym, ap, ◌∙◌, subst, arith, mod-eq_of_lt, if◌then◌else◌}
use Rattle.std.proofs.lemmas.List.Elements.{All-nil, All-cons}
use Rattle.majority.specs.Acceptors.{with_promise, with_vote}
use Rattle.majority.specs.Proposers.{Attempt, takes_zero, ballot_for}
use Rattle.majority.specs.Ballots.{next_ballot}
use Rattle.majority.proofs.Numbers.{IsNextBallot_next, positive_test, zero_from_test}
use Rattle.majority.specs.Votes.{Vote, HasVote}
use Rattle.majority.specs.Slot.{Message, Prepare, Accept, SlotState, with_entry, slot_started}
use Rattle.majority.proofs.Lists.{Contains_here, Contains_cases, Contains_none, IsDistinct_nil, IsDistinct_cons}
use Rattle.majority.proofs.Entries.{with_entry_cases}
use Rattle.majority.specs.Agreement.{Reaches, bars_of, HasNoVote, IsLastVote, IsAttemptIfAny, IsSound}
use Rattle.majority.proofs.Growth.{IsAttemptIfAny_kept, Reaches_lower}
use Rattle.majority.proofs.Casts.{Grows_promise, IsAgreed_promise, Grows_vote, IsAgreed_vote}
use Rattle.majority.proofs.Steps.{Reaches_here, HasNoVote_other}

-- this replica alone
pub All_alone : (P : ℕ → Type 0) (i : ℕ) → P i → All P (i ∷ [])
All_alone P i p = All-cons P i [] p (All-nil P)

pub Contains_alone : (i j : ℕ) → Contains (i ∷ []) j → i ≡ j
Contains_alone i j member = elim (Contains_cases i j [] member) [ inl same ↦ same | inr none ↦ absurd (Contains_none j none) ]

module _ {V : Type 0} where
  -- the attempts are replaced by others that stand
  pub IsSound_attempts : (n : ℕ) (slot : SlotState V) (attempts : ℕ → Option (Attempt V)) → IsSound n slot →
      ((j : ℕ) → IsAttemptIfAny n slot.votes (bars_of slot.acceptors j) slot.sent j (attempts j)) → IsSound n (record slot { attempts = attempts })
  IsSound_attempts n slot attempts sound stand = record { agreed = sound.agreed; attempts = stand }

  -- one attempt is replaced
  pub IsSound_attempt : (n i : ℕ) (slot : SlotState V) (attempt : Option (Attempt V)) → IsSound n slot →
      IsAttemptIfAny n slot.votes (bars_of slot.acceptors i) slot.sent i attempt → IsSound n (record slot { attempts = with_entry i attempt slot.attempts })
  IsSound_attempt n i slot attempt sound stands =
      IsSound_attempts n slot (with_entry i attempt slot.attempts) sound
      (with_entry_cases (λ (j : ℕ) (a : Option (Attempt V)). IsAttemptIfAny n slot.votes (bars_of slot.acceptors j) slot.sent j a) i attempt slot.attempts stands (λ j other. sound.attempts j))

  pub IsSound_restart : (n i : ℕ) (slot : SlotState V) → IsSound n slot → IsSound n (record slot { attempts = with_entry i None slot.attempts })
  IsSound_restart n i slot sound = IsSound_attempt n i slot None sound tt

  -- a vote that its owner casts at an unvoted ballot leaves the attempts of others
  pub others_kept : (n i b : ℕ) (v : V) (slot : SlotState V) (message : Message V) → (Reaches (bars_of slot.acceptors i) (suc b) → ⊥) → b % n ≡ i
      → IsSound n slot → (j : ℕ) → (j ≡ i → ⊥) →
      IsAttemptIfAny n (record { replica = i; ballot = b; value = v } ∷ slot.votes) (bars_of (with_entry i (with_vote b v (slot.acceptors i)) slot.acceptors) j) (message ∷ slot.sent) j (slot.attempts j)
  others_kept n i b v slot message free owned sound j other =
      IsAttemptIfAny_kept slot.votes (record { replica = i; ballot = b; value = v } ∷ slot.votes) (bars_of slot.acceptors) (bars_of (with_entry i (with_vote b v (slot.acceptors i)) slot.acceptors)) slot.sent (message ∷ slot.sent)
      (Grows_vote n slot.acceptors slot.votes slot.sent i b v message free) n j (slot.attempts j)
      (λ ballot above owner none. HasNoVote_other slot.votes i b v ballot (λ same. other (sym owner ∙ (ap (λ d. d % n) (sym same) ∙ owned))) none)
      (sound.attempts j)

  module _ (n i : ℕ) (wish : V) (slot : SlotState V) (within : i < n) (sound : IsSound n slot) where
    -- a start at a ballot that the replica owns and that its promise is below
    started_above : (b : ℕ) → 0 < b → b % n ≡ i → (Reaches (slot.acceptors i).promised b → ⊥) → (b == 0) ≡ false → IsSound n (slot_started i n b wish slot)
    started_above b above owned below test =
        let free : Reaches (bars_of slot.acceptors i) (suc b) → ⊥ = λ h. below (Reaches_lower (slot.acceptors i).promised (suc b) b h (omega arith)) in
        let message : Message V = Prepare b in
        let held' = with_entry i (with_promise b (slot.acceptors i)) slot.acceptors in
        let grows = Grows_promise n slot.acceptors slot.votes slot.sent i b message free in
        let unvoted : (j : ℕ) → HasNoVote slot.votes j b = λ j v vote. below ((sound.agreed.acceptors i).barred b v (subst (λ k. HasVote slot.votes k b v) owned (sound.agreed.owners j b v vote))) in
        rw test (record {
          agreed = IsAgreed_promise n slot.acceptors slot.votes slot.sent i b message free sound.agreed tt;
          attempts = with_entry_cases (λ (j : ℕ) (a : Option (Attempt V)). IsAttemptIfAny n slot.votes (bars_of held' j) (message ∷ slot.sent) j a) i _ slot.attempts
              (record {
                here = refl;
                count = refl;
                owned = owned;
                barred = Reaches_here i b (with_promise b (slot.acceptors i)) slot.acceptors (omega arith);
                within = All_alone (λ k. k < n) i within;
                distinct = IsDistinct_cons i [] tt IsDistinct_nil;
                stands = (record { above = above; unvoted = unvoted }, record { heard = λ j member. inl (sym (Contains_alone i j member)); reported = tt });
              })
              (λ j other. IsAttemptIfAny_kept slot.votes slot.votes (bars_of slot.acceptors) (bars_of held') slot.sent (message ∷ slot.sent) grows n j (slot.attempts j) (λ ballot positive owner none. none) (sound.attempts j));
        })

    no_votes : (last : Option (ℕ × V)) → last ≡ None → IsLastVote slot.votes i last → (b : ℕ) → HasNoVote slot.votes i b
    no_votes None e holds b v vote = holds b v vote
    no_votes (Some last) e holds b v vote = absurd (cc)

    no_promise : (promise : Option ℕ) (b : ℕ) → promise ≡ None → Reaches promise b → ⊥
    no_promise None b e h = h
    no_promise (Some promise) b e h = absurd (cc)

    -- replica 0 on a fresh acceptor votes at ballot 0 at once
    started_zero : i ≡ 0 → (slot.acceptors i).promised ≡ None → (slot.acceptors i).accepted ≡ None → IsSound n (slot_started i n 0 wish slot)
    started_zero first promised accepted =
        let free : Reaches (bars_of slot.acceptors i) 1 → ⊥ = no_promise (slot.acceptors i).promised 1 promised in
        let owned : 0 % n ≡ i = mod-eq_of_lt (omega arith) ∙ sym first in
        let message : Message V = Accept 0 wish in
        let unvoted : (j : ℕ) → HasNoVote slot.votes j 0 = λ j v vote. no_votes (slot.acceptors i).accepted accepted (sound.agreed.acceptors i).last 0 v (subst (λ k. HasVote slot.votes k 0 v) owned (sound.agreed.owners j 0 v vote)) in
        let votes' : List (Vote V) = record { replica = i; ballot = 0; value = wish } ∷ slot.votes in
        let here : HasVote votes' i 0 wish = Contains_here (record { replica = i; ballot = 0; value = wish }) slot.votes in
        let held' = with_entry i (with_vote 0 wish (slot.acceptors i)) slot.acceptors in
        record {
          agreed = IsAgreed_vote n slot.acceptors slot.votes slot.sent i 0 wish message free within sound.agreed (inr (owned, unvoted))
              (λ lower below. absurd (omega arith))
              (subst (λ k. HasVote votes' k 0 wish) (sym owned) here);
          attempts = with_entry_cases (λ (j : ℕ) (a : Option (Attempt V)). IsAttemptIfAny n votes' (bars_of held' j) (message ∷ slot.sent) j a) i _ slot.attempts
              (record {
                here = refl;
                count = refl;
                owned = owned;
                barred = Reaches_here i 0 (with_vote 0 wish (slot.acceptors i)) slot.acceptors (omega arith);
                within = All_alone (λ k. k < n) i within;
                distinct = IsDistinct_cons i [] tt IsDistinct_nil;
                stands = record {
                  own = here;
                  within = All_alone (λ k. k < n) i within;
                  distinct = IsDistinct_cons i [] tt IsDistinct_nil;
                  voted = λ j member. subst (λ k. HasVote votes' k 0 wish) (Contains_alone i j member) here;
                };
              })
              (others_kept n i 0 wish slot message free owned sound);
        }

    not_reached : (promise : Option ℕ) (highest b : ℕ) → max highest (unwrap_or promise 0) < b → Reaches promise b → ⊥
    not_reached None highest b above reached = reached
    not_reached (Some promise) highest b above reached = omega arith

    no_value : {X : Type 0} (o : Option X) → is_none o ≡ true → o ≡ None
    no_value None e = refl
    no_value (Some x) e = absurd (cc)

    pub IsSound_start : (highest : ℕ) → IsSound n (slot_started i n (ballot_for i n highest (slot.acceptors i)) wish slot)
    IsSound_start highest = by_zero (takes_zero i (slot.acceptors i)) refl
      where
        by_zero : (t : Bool) → takes_zero i (slot.acceptors i) ≡ t →
            IsSound n (slot_started i n (if t then 0 else next_ballot i n (max highest (unwrap_or (slot.acceptors i).promised 0))) wish slot)
        by_zero true e =
            let parts : ((i == 0) ≡ true) × (is_none (slot.acceptors i).promised ≡ true) × (is_none (slot.acceptors i).accepted ≡ true) = grind arith in
            started_zero (zero_from_test i parts.0) (no_value (slot.acceptors i).promised parts.1) (no_value (slot.acceptors i).accepted parts.2)
        by_zero false e =
            let next = IsNextBallot_next i n (max highest (unwrap_or (slot.acceptors i).promised 0)) within in
            let b = next_ballot i n (max highest (unwrap_or (slot.acceptors i).promised 0)) in
            started_above b (omega (arith, next.above)) next.owned (not_reached (slot.acceptors i).promised highest b next.above) (positive_test b (omega (arith, next.above)))
