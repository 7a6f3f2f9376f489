-- A promise or an acceptance that comes to an attempt keeps the invariant of one slot.
use Rattle.std.proofs.Common.{◌≡◌, ℕ, suc, ◌<◌, Bool, true, false, List, [], ◌∷◌, nat_eq, Option, Some, None, is_some, All, Contains, inl, inr, refl, sym, ◌∙◌, subst, arith, if◌then◌else◌}
use Rattle.std.specs.List.{IsDistinct}
use Rattle.std.proofs.lemmas.Bool.Decides.{eqb_tells}
use Rattle.majority.specs.Ballots.{greater_promise, with_replica, is_majority}
use Rattle.majority.specs.Acceptors.{AcceptorState, with_vote}
use Rattle.majority.specs.Proposers.{Attempt, value_to_send, with_heard, with_acceptance, promise_answer, promise_answer_unless, promise_answer_heard}
use Rattle.majority.specs.Votes.{Vote, HasVote}
use Rattle.majority.specs.Slot.{Message, Promise, Accept, Accepted, SlotState, with_entry, promise_answered, promise_comes, accepted_comes}
use Rattle.majority.specs.declared.answers.PromiseAnswer.{PromiseAnswer}
use Rattle.majority.specs.declared.answers.PromiseAnswer.TheVariants as promise
use Rattle.majority.proofs.Lists.{Contains_here, IsDistinct_nil, IsDistinct_cons}
use Rattle.majority.proofs.Members.{IsDistinct_with_replica, All_with_replica, Contains_with_replica}
use Rattle.majority.proofs.Entries.{with_entry_cases}
use Rattle.majority.specs.Agreement.{Reaches, bars_of, PromisesTell, AttemptStands, AttemptsAreUnvoted, AttemptsHavePromises, AttemptsAreVoted, IsAttempt, IsAttemptIfAny, IsSound, IsSafeAt}
use Rattle.majority.proofs.Chosen.{OneValuePerBallot}
use Rattle.majority.proofs.Safety.{sent_is_safe}
use Rattle.majority.proofs.Casts.{IsAgreed_vote}
use Rattle.majority.proofs.Heard.{HasPromises_heard}
use Rattle.majority.proofs.Steps.{not_passed, with_entry_kept, Reaches_here, IsSound_same}
use Rattle.majority.proofs.Starts.{IsSound_attempt, others_kept, All_alone, Contains_alone}

module _ {V : Type 0} where
  -- What an answer says of the attempt that gave it.

  unsent : (sending : Option V) (rest answer : PromiseAnswer V) → (answer ≡ promise.Late → ⊥) → (if is_some sending then promise.Late else rest) ≡ answer
      → (sending ≡ None) × (rest ≡ answer)
  unsent None rest answer other e = (refl, e)
  unsent (Some value) rest answer other e = absurd (other (sym e))

  free : (o : Option ℕ) (own : AcceptorState V) (heard : Attempt V) (value : V) → promise_answer_unless o own heard ≡ promise.Send value
      → (o ≡ None) × (promise_answer_heard own heard ≡ promise.Send value)
  free None own heard value e = (refl, e)
  free (Some promised) own heard value e = absurd (cc)

  enough : (test : Bool) (x value : V) (have : ℕ) → (let r : PromiseAnswer V = if test then promise.Send x else promise.Waiting have in r) ≡ promise.Send value
      → (test ≡ true) × (x ≡ value)
  enough true x value have e = (refl, cc)
  enough false x value have e = absurd (cc)

  module _ (n i : ℕ) (slot : SlotState V) (within : i < n) (sound : IsSound n slot) (from : ℕ) (report : Option (ℕ × V)) (a : Attempt V)
      (member : Contains slot.sent (Promise from a.ballot report)) (attempt : IsAttempt n slot.votes (bars_of slot.acceptors i) slot.sent i a) where
    told : PromisesTell n slot.votes (bars_of slot.acceptors) from a.ballot report
    told = sound.agreed.messages (Promise from a.ballot report) member

    -- while nothing is being sent, the attempt stands with the promise heard
    stands : a.sending ≡ None → AttemptsAreUnvoted slot.votes a.ballot × AttemptsHavePromises slot.sent (with_heard from report a)
    stands e =
        let before : AttemptsAreUnvoted slot.votes a.ballot × AttemptsHavePromises slot.sent a = subst (λ s. AttemptStands slot.votes slot.sent n a s) e attempt.stands in (
          before.0,
          HasPromises_heard a.replica (λ k told. Contains slot.sent (Promise k a.ballot told)) from report a (inl member) before.1,
        )

    promises_within : All (λ k. k < n) (with_replica from a.promises)
    promises_within = All_with_replica (λ k. k < n) from a.promises attempt.within told.within

    promises_distinct : IsDistinct nat_eq (with_replica from a.promises)
    promises_distinct = IsDistinct_with_replica from a.promises attempt.distinct

    IsAttempt_heard : a.sending ≡ None → IsAttempt n slot.votes (bars_of slot.acceptors i) slot.sent i (with_heard from report a)
    IsAttempt_heard e =
        record {
          here = attempt.here;
          count = attempt.count;
          owned = attempt.owned;
          barred = attempt.barred;
          within = promises_within;
          distinct = promises_distinct;
          stands = subst (λ s. AttemptStands slot.votes slot.sent n (with_heard from report a) s) (sym e) (stands e);
        }

    -- the attempt sends a value that is safe at its ballot
    IsSound_send : (value : V) → a.sending ≡ None → (Reaches (bars_of slot.acceptors i) (suc a.ballot) → ⊥)
        → IsSafeAt n slot.votes (bars_of slot.acceptors) a.ballot value →
        IsSound n (promise_answered (promise.Send value) i from report a slot)
    IsSound_send value e below is_safe =
        let b = a.ballot in
        let message : Message V = Accept b value in
        let votes' : List (Vote V) = record { replica = i; ballot = b; value = value } ∷ slot.votes in
        let here : HasVote votes' i b value = Contains_here (record { replica = i; ballot = b; value = value }) slot.votes in
        let held' = with_entry i (with_vote b value (slot.acceptors i)) slot.acceptors in
        record {
          agreed = IsAgreed_vote n slot.acceptors slot.votes slot.sent i b value message below within sound.agreed (inr (attempt.owned, (stands e).0.unvoted)) is_safe
              (subst (λ k. HasVote votes' k b value) (sym attempt.owned) here);
          attempts = with_entry_cases (λ (j : ℕ) (t : Option (Attempt V)). IsAttemptIfAny n votes' (bars_of held' j) (message ∷ slot.sent) j t) i _ slot.attempts
              (record {
                here = attempt.here;
                count = attempt.count;
                owned = attempt.owned;
                barred = Reaches_here i b (with_vote b value (slot.acceptors i)) slot.acceptors (omega arith);
                within = promises_within;
                distinct = promises_distinct;
                stands = record {
                  own = subst (λ k. HasVote votes' k b value) (sym attempt.here) here;
                  within = All_alone (λ k. k < n) a.replica (subst (λ k. k < n) (sym attempt.here) within);
                  distinct = IsDistinct_cons a.replica [] tt IsDistinct_nil;
                  voted = λ j alone. subst (λ k. HasVote votes' k b value) (sym attempt.here ∙ Contains_alone a.replica j alone) here;
                };
              })
              (others_kept n i b value slot message below attempt.owned sound);
        }

    IsSound_answered : slot.attempts i ≡ Some a → (answer : PromiseAnswer V) → promise_answer from report (slot.acceptors i) a ≡ answer
        → IsSound n (promise_answered answer i from report a slot)
    IsSound_answered stood promise.Late e =
        IsSound_same n slot (with_entry i (slot.acceptors i) slot.acceptors) (with_entry i (Some a) slot.attempts) (with_entry_kept i (slot.acceptors i) slot.acceptors refl) (with_entry_kept i (Some a) slot.attempts stood) sound
    IsSound_answered stood (promise.Lower promised) e =
        IsSound_same n slot (with_entry i (slot.acceptors i) slot.acceptors) (with_entry i (Some a) slot.attempts) (with_entry_kept i (slot.acceptors i) slot.acceptors refl) (with_entry_kept i (Some a) slot.attempts stood) sound
    IsSound_answered stood (promise.Waiting have) e =
        let quiet = unsent a.sending _ (promise.Waiting have) (λ clash. cc) e in
        let heard = IsSound_attempt n i slot (Some (with_heard from report a)) sound (IsAttempt_heard quiet.0) in
        IsSound_same n (record slot { attempts = with_entry i (Some (with_heard from report a)) slot.attempts }) (with_entry i (slot.acceptors i) slot.acceptors) (with_entry i (Some (with_heard from report a)) slot.attempts) (with_entry_kept i (slot.acceptors i) slot.acceptors refl) refl heard
    IsSound_answered stood (promise.Send value) e =
        let quiet = unsent a.sending _ (promise.Send value) (λ clash. cc) e in
        let open_to = free (greater_promise (slot.acceptors i).promised a.ballot) (slot.acceptors i) (with_heard from report a) value quiet.1 in
        let majority = enough (is_majority a.n (with_replica from a.promises)) (value_to_send (slot.acceptors i) (with_heard from report a)) value _ open_to.1 in
        let below = not_passed (slot.acceptors i).promised a.ballot open_to.0 in
        IsSound_send value quiet.0 below (subst (IsSafeAt n slot.votes (bars_of slot.acceptors) a.ballot) majority.1 (sent_is_safe n i slot sound (with_heard from report a) (IsAttempt_heard quiet.0) (stands quiet.0).1 below majority.0))

  pub IsSound_promise : (n i from ballot : ℕ) (report : Option (ℕ × V)) (slot : SlotState V) → i < n → Contains slot.sent (Promise from ballot report)
      → IsSound n slot →
      (stood : Option (Attempt V)) → slot.attempts i ≡ stood → IsSound n (promise_comes i from ballot report stood slot)
  IsSound_promise n i from ballot report slot within member sound None e = sound
  IsSound_promise n i from ballot report slot within member sound (Some a) e =
      elim (eqb_tells a.ballot ballot) [
        | inl same ↦
            let here : Contains slot.sent (Promise from a.ballot report) = subst (λ b. Contains slot.sent (Promise from b report)) (sym same.1) member in
            let attempt : IsAttempt n slot.votes (bars_of slot.acceptors i) slot.sent i a = subst (λ t. IsAttemptIfAny n slot.votes (bars_of slot.acceptors i) slot.sent i t) e (sound.attempts i) in
            rw same.0 (IsSound_answered n i slot within sound from report a here attempt e (promise_answer from report (slot.acceptors i) a) refl)
        | inr other ↦ rw other.0 sound
      ]

  -- an attempt stands with another report, value and acceptances where what these say stands
  pub IsAttempt_stands : (n i : ℕ) (votes : List (Vote V)) (bar : Option ℕ) (sent : List (Message V)) (a : Attempt V) (reported : Option (ℕ × V)) (sending : Option V)
      (acceptances : List ℕ) → IsAttempt n votes bar sent i a
      → AttemptStands votes sent n (record a { reported = reported; sending = sending; acceptances = acceptances }) sending
      → IsAttempt n votes bar sent i (record a { reported = reported; sending = sending; acceptances = acceptances })
  IsAttempt_stands n i votes bar sent a reported sending acceptances attempt stands = record {
    here = attempt.here;
    count = attempt.count;
    owned = attempt.owned;
    barred = attempt.barred;
    within = attempt.within;
    distinct = attempt.distinct;
    stands = stands;
  }

  -- the acceptance of a replica that voted for the value is counted
  pub IsAttempt_counted : (n i from : ℕ) (a : Attempt V) (value : V) (votes : List (Vote V)) (bar : Option ℕ) (sent : List (Message V)) → from < n
      → HasVote votes from a.ballot value → IsAttempt n votes bar sent i a → a.sending ≡ Some value → IsAttempt n votes bar sent i (with_acceptance from a)
  IsAttempt_counted n i from a value votes bar sent below vote attempt e =
      let before : AttemptsAreVoted votes n a value = subst (λ s. AttemptStands votes sent n a s) e attempt.stands in
      let after : AttemptsAreVoted votes n (with_acceptance from a) value = record {
        own = before.own;
        within = All_with_replica (λ k. k < n) from a.acceptances before.within below;
        distinct = IsDistinct_with_replica from a.acceptances before.distinct;
        voted = λ j among. elim (Contains_with_replica from j a.acceptances among) [
          | inl old ↦ before.voted j old
          | inr new ↦ subst (λ k. HasVote votes k a.ballot value) new vote
        ];
      } in
      IsAttempt_stands n i votes bar sent a a.reported a.sending (with_replica from a.acceptances) attempt
      (subst (λ s. AttemptStands votes sent n (with_acceptance from a) s) (sym e) after)

  -- an acceptance is counted
  IsAttempt_acceptance : (n i from : ℕ) (a : Attempt V) (value : V) (slot : SlotState V) → IsSound n slot → Contains slot.sent (Accepted from a.ballot) →
      IsAttempt n slot.votes (bars_of slot.acceptors i) slot.sent i a → a.sending ≡ Some value → IsAttempt n slot.votes (bars_of slot.acceptors i) slot.sent i (with_acceptance from a)
  IsAttempt_acceptance n i from a value slot sound member attempt e =
      let before : AttemptsAreVoted slot.votes n a value = subst (λ s. AttemptStands slot.votes slot.sent n a s) e attempt.stands in
      let accepted = sound.agreed.messages (Accepted from a.ballot) member in
      let same : accepted.0 ≡ value = OneValuePerBallot n slot.votes sound.agreed.one_vote sound.agreed.owners from a.replica a.ballot accepted.0 value accepted.1 before.own in
      let vote : HasVote slot.votes from a.ballot value = subst (λ v. HasVote slot.votes from a.ballot v) same accepted.1 in
      IsAttempt_counted n i from a value slot.votes (bars_of slot.acceptors i) slot.sent ((sound.agreed.acceptors from).within a.ballot value vote) vote attempt e

  pub IsSound_accepted : (n i from ballot : ℕ) (slot : SlotState V) → Contains slot.sent (Accepted from ballot) → IsSound n slot →
      (stood : Option (Attempt V)) → slot.attempts i ≡ stood → IsSound n (accepted_comes i from ballot stood slot)
  IsSound_accepted n i from ballot slot member sound None e = sound
  IsSound_accepted n i from ballot slot member sound (Some a) e =
      elim (eqb_tells a.ballot ballot) [
        | inl same ↦ rw same.0 (by_sending (subst (λ b. Contains slot.sent (Accepted from b)) (sym same.1) member) a.sending refl)
        | inr other ↦ rw other.0 sound
      ]
    where
      attempt : IsAttempt n slot.votes (bars_of slot.acceptors i) slot.sent i a
      attempt = subst (λ t. IsAttemptIfAny n slot.votes (bars_of slot.acceptors i) slot.sent i t) e (sound.attempts i)

      by_sending : Contains slot.sent (Accepted from a.ballot) → (s : Option V) → a.sending ≡ s →
          IsSound n (record slot { attempts = with_entry i (Some (if is_some s then with_acceptance from a else a)) slot.attempts })
      by_sending here None q = IsSound_attempt n i slot (Some a) sound attempt
      by_sending here (Some value) q = IsSound_attempt n i slot (Some (with_acceptance from a)) sound (IsAttempt_acceptance n i from a value slot sound here attempt q)
