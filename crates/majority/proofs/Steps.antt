-- Each step of the machine of one slot keeps its invariant. The steps name the message that comes, and not its place.
use Rattle.std.proofs.Common.{◌≡◌, ℕ, suc, ◌%◌, ◌<◌, List, ◌∷◌, Option, Some, None, Contains, inl, inr, refl, sym, subst, arith}
use mathlib.Core.Path.{fun_ext}
use Rattle.std.proofs.lemmas.Bool.Decides.{leb_tells, eqb_tells}
use Rattle.majority.specs.Ballots.{greater_promise}
use Rattle.majority.specs.Acceptors.{AcceptorState, with_promise, with_vote, prepare_answer_unless, after_prepare_answer, accept_answer_unless, after_accept_answer}
use Rattle.majority.specs.Proposers.{Attempt}
use Rattle.majority.specs.Votes.{Vote, HasVote}
use Rattle.majority.specs.Slot.{Message, Promise, Accept, Accepted, SlotState, with_entry, prepare_comes, accept_comes, sent_for_prepare, sent_for_accept, votes_for_accept}
use Rattle.majority.proofs.Lists.{Contains_here}
use Rattle.majority.proofs.Entries.{with_entry_cases, HasVote_elim}
use Rattle.majority.specs.Agreement.{Reaches, bars_of, HasNoVote, OwnersVoted, IsSound}
use Rattle.majority.proofs.Growth.{IsAttemptIfAny_kept}
use Rattle.majority.proofs.Casts.{Grows_promise, IsAgreed_promise, Grows_vote, IsAgreed_vote}
use Rattle.majority.proofs.Heard.{Tells_own}

-- a promise that is not above the ballot does not pass it
pub not_passed : (promise : Option ℕ) (b : ℕ) → greater_promise promise b ≡ None → Reaches promise (suc b) → ⊥
not_passed None b e h = h
not_passed (Some promise) b e h =
    elim (leb_tells (suc b) promise) [
      | inl above ↦ let some : greater_promise (Some promise) b ≡ Some promise = rw above.0 refl in absurd (cc)
      | inr below ↦ omega arith
    ]

module _ {X : Type 0} where
  pub with_entry_here : (i : ℕ) (x : X) (entries : ℕ → X) → with_entry i x entries i ≡ x
  with_entry_here i x entries =
      elim (eqb_tells i i) [
        | inl same ↦ rw same.0
        | inr other ↦ absurd (other.1 refl)
      ]

  -- an entry that is set to what it was
  pub with_entry_kept : (i : ℕ) (x : X) (entries : ℕ → X) → entries i ≡ x → with_entry i x entries ≡ entries
  with_entry_kept i x entries e =
      fun_ext (with_entry_cases (λ (j : ℕ) (y : X). y ≡ entries j) i x entries (sym e) (λ j other. refl))

module _ {V : Type 0} where
  -- what the changed acceptor has promised
  pub Reaches_here : (i b : ℕ) (own : AcceptorState V) (held : ℕ → AcceptorState V) → Reaches own.promised b → Reaches (bars_of (with_entry i own held) i) b
  Reaches_here i b own held reached = subst (λ (a : AcceptorState V). Reaches a.promised b) (sym (with_entry_here i own held)) reached

  -- the same slot, with an acceptor and an attempt set to what they were
  pub IsSound_same : (n : ℕ) (slot : SlotState V) (held : ℕ → AcceptorState V) (attempts : ℕ → Option (Attempt V)) → held ≡ slot.acceptors
      → attempts ≡ slot.attempts → IsSound n slot →
      IsSound n (record { acceptors = held; attempts = attempts; votes = slot.votes; sent = slot.sent })
  IsSound_same n slot held attempts e f sound =
      subst (λ h. IsSound n (record { acceptors = h; attempts = attempts; votes = slot.votes; sent = slot.sent })) (sym e)
      (subst (λ t. IsSound n (record { acceptors = slot.acceptors; attempts = t; votes = slot.votes; sent = slot.sent })) (sym f) sound)

  -- a vote leaves a ballot unvoted that is another one
  pub HasNoVote_other : (votes : List (Vote V)) (i b : ℕ) (v : V) (ballot : ℕ) → (b ≡ ballot → ⊥) → ((j : ℕ) → HasNoVote votes j ballot) → (j : ℕ)
      → HasNoVote (record { replica = i; ballot = b; value = v } ∷ votes) j ballot
  HasNoVote_other votes i b v ballot other none j w vote =
      HasVote_elim (λ j c w. c ≡ ballot → ⊥) i b v votes other (λ j c w old same. none j w (subst (λ d. HasVote votes j d w) same old)) j ballot w vote refl

  pub IsSound_prepare : (n i b : ℕ) (slot : SlotState V) → i < n → IsSound n slot → IsSound n (prepare_comes i b slot)
  IsSound_prepare n i b slot within sound = answered (greater_promise (slot.acceptors i).promised b) refl
    where
      answered : (o : Option ℕ) → greater_promise (slot.acceptors i).promised b ≡ o →
          IsSound n (record {
            acceptors = with_entry i (after_prepare_answer (prepare_answer_unless o (slot.acceptors i)) b (slot.acceptors i)) slot.acceptors;
            attempts = slot.attempts;
            votes = slot.votes;
            sent = sent_for_prepare (prepare_answer_unless o (slot.acceptors i)) i b slot.sent;
          })
      answered (Some promise) e =
          IsSound_same n slot (with_entry i (slot.acceptors i) slot.acceptors) slot.attempts (with_entry_kept i (slot.acceptors i) slot.acceptors refl) refl sound
      answered None e =
          let free = not_passed (slot.acceptors i).promised b e in
          let message = Promise i b (slot.acceptors i).accepted in
          let held' = with_entry i (with_promise b (slot.acceptors i)) slot.acceptors in
          record {
            agreed = IsAgreed_promise n slot.acceptors slot.votes slot.sent i b message free sound.agreed (record {
              within = within;
              barred = Reaches_here i b (with_promise b (slot.acceptors i)) slot.acceptors (omega arith);
              tells = Tells_own n slot.votes i b (slot.acceptors i) (sound.agreed.acceptors i) free;
            });
            attempts = λ j. IsAttemptIfAny_kept slot.votes slot.votes (bars_of slot.acceptors) (bars_of held') slot.sent (message ∷ slot.sent)
                (Grows_promise n slot.acceptors slot.votes slot.sent i b message free) n j (slot.attempts j) (λ ballot above owned none. none) (sound.attempts j);
          }

  pub IsSound_accept : (n i b : ℕ) (v : V) (slot : SlotState V) → i < n → Contains slot.sent (Accept b v) → IsSound n slot → IsSound n (accept_comes i b v slot)
  IsSound_accept n i b v slot within member sound = answered (greater_promise (slot.acceptors i).promised b) refl
    where
      answered : (o : Option ℕ) → greater_promise (slot.acceptors i).promised b ≡ o →
          IsSound n (record {
            acceptors = with_entry i (after_accept_answer (accept_answer_unless o) b v (slot.acceptors i)) slot.acceptors;
            attempts = slot.attempts;
            votes = votes_for_accept (accept_answer_unless o) i b v slot.votes;
            sent = sent_for_accept (accept_answer_unless o) i b slot.sent;
          })
      answered (Some promise) e =
          IsSound_same n slot (with_entry i (slot.acceptors i) slot.acceptors) slot.attempts (with_entry_kept i (slot.acceptors i) slot.acceptors refl) refl sound
      answered None e =
          let free = not_passed (slot.acceptors i).promised b e in
          let message : Message V = Accepted i b in
          let held' = with_entry i (with_vote b v (slot.acceptors i)) slot.acceptors in
          let votes' : List (Vote V) = record { replica = i; ballot = b; value = v } ∷ slot.votes in
          let owner : OwnersVoted n slot.votes b v = sound.agreed.messages (Accept b v) member in
          record {
            agreed = IsAgreed_vote n slot.acceptors slot.votes slot.sent i b v message free within sound.agreed (inl owner)
                (sound.agreed.safe (b % n) b v owner)
                (v, Contains_here (record { replica = i; ballot = b; value = v }) slot.votes);
            attempts = λ j. IsAttemptIfAny_kept slot.votes votes' (bars_of slot.acceptors) (bars_of held') slot.sent (message ∷ slot.sent)
                (Grows_vote n slot.acceptors slot.votes slot.sent i b v message free) n j (slot.attempts j)
                (λ ballot above owned none. HasNoVote_other slot.votes i b v ballot (λ same. none (b % n) v (subst (λ d. HasVote slot.votes (b % n) d v) same owner)) none)
                (sound.attempts j);
          }
