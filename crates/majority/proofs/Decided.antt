-- What is chosen stays chosen, and an attempt that counts a majority of acceptances has had its value chosen.
use Rattle.std.proofs.Common.{◌≡◌, ℕ, ◌*◌, ◌^◌, ◌<◌, ◌==◌, Bool, true, false, List, [], ◌∷◌, ◌++◌, length, nat_lt, Option, Some, None, slice_get, is_some, Contains, ◌⊎◌, inl, inr, refl, sym, ◌∙◌, subst, if◌then◌else◌}
use Rattle.std.proofs.lemmas.List.Elements.{All-weaker, All-contains_itself}
use Rattle.majority.specs.Ballots.{is_majority, with_replica}
use Rattle.majority.specs.Acceptors.{accept_answer}
use Rattle.majority.specs.Proposers.{Attempt, promise_answer, ballot_for, accepted_answer, accepted_answer_heard}
use Rattle.majority.specs.Votes.{Vote, HasVote, IsChosenAt}
use Rattle.majority.specs.declared.answers.AcceptedAnswer.{AcceptedAnswer}
use Rattle.majority.specs.declared.answers.AcceptedAnswer.TheVariants as accepting
use Rattle.majority.specs.declared.answers.AcceptAnswer.{AcceptAnswer}
use Rattle.majority.specs.declared.answers.AcceptAnswer.TheVariants as accept
use Rattle.majority.specs.declared.answers.PromiseAnswer.{PromiseAnswer}
use Rattle.majority.specs.declared.answers.PromiseAnswer.TheVariants as promise
use Rattle.majority.specs.Slot.{Message, Prepare, Promise, Accept, Accepted, SlotEvent, Start, Comes, Restart, SlotState, slot_started, start_happens, message_comes, promise_answered, promise_comes, accepted_comes, votes_for_accept, votes_for_promise, slot_after, slot_run}
use Rattle.majority.proofs.Lists.{Contains_later}
use Rattle.majority.specs.Agreement.{AttemptStands, AttemptsAreVoted, IsAttemptIfAny, IsAttempt, IsSound, bars_of}
use Rattle.majority.proofs.Chosen.{OneValuePerBallot}
use Rattle.majority.proofs.Members.{IsDistinct_with_replica, All_with_replica}
use Rattle.majority.proofs.Majorities.{most_from_test}

-- the answer that a value is chosen comes where the test holds
chosen_test : (test : Bool) (have : ℕ) → (let answer : AcceptedAnswer = if test then accepting.Chosen else accepting.Waiting have in answer) ≡ accepting.Chosen
    → test ≡ true
chosen_test true have e = refl
chosen_test false have e = absurd (cc)

module _ {V : Type 0} where
  -- each vote of the first list is in the second
  abbrev pub KeepsVotes : List (Vote V) → List (Vote V) → Type 0
  KeepsVotes votes votes' = (vote : Vote V) → Contains votes vote → Contains votes' vote

  kept_by_accept : (answer : AcceptAnswer) (i b : ℕ) (v : V) (votes : List (Vote V)) → KeepsVotes votes (votes_for_accept answer i b v votes)
  kept_by_accept (accept.Lower promised) i b v votes vote member = member
  kept_by_accept accept.Taken i b v votes vote member = Contains_later _ vote votes member

  kept_by_promise : (answer : PromiseAnswer V) (i b : ℕ) (votes : List (Vote V)) → KeepsVotes votes (votes_for_promise answer i b votes)
  kept_by_promise promise.Late i b votes vote member = member
  kept_by_promise (promise.Lower promised) i b votes vote member = member
  kept_by_promise (promise.Waiting have) i b votes vote member = member
  kept_by_promise (promise.Send value) i b votes vote member = Contains_later _ vote votes member

  -- what holds of both cases of a test
  both : (P : SlotState V → Type 0) (test : Bool) (x y : SlotState V) → P x → P y → P (if test then x else y)
  both P true x y p q = p
  both P false x y p q = q

  kept_by_message : (i : ℕ) (o : Option (Message V)) (slot : SlotState V) → KeepsVotes slot.votes (message_comes i o slot).votes
  kept_by_message i None slot = λ vote member. member
  kept_by_message i (Some (Prepare ballot)) slot = λ vote member. member
  kept_by_message i (Some (Promise from ballot report)) slot = of_attempt (slot.attempts i)
    where
      of_attempt : (t : Option (Attempt V)) → KeepsVotes slot.votes (promise_comes i from ballot report t slot).votes
      of_attempt None = λ vote member. member
      of_attempt (Some a) =
          both (λ after. KeepsVotes slot.votes after.votes) (a.ballot == ballot) (promise_answered (promise_answer from report (slot.acceptors i) a) i from report a slot) slot
          (kept_by_promise (promise_answer from report (slot.acceptors i) a) i a.ballot slot.votes) (λ vote member. member)
  kept_by_message i (Some (Accept ballot value)) slot = kept_by_accept (accept_answer ballot (slot.acceptors i)) i ballot value slot.votes
  kept_by_message i (Some (Accepted from ballot)) slot = of_attempt (slot.attempts i)
    where
      of_attempt : (t : Option (Attempt V)) → KeepsVotes slot.votes (accepted_comes i from ballot t slot).votes
      of_attempt None = λ vote member. member
      of_attempt (Some a) = both (λ after. KeepsVotes slot.votes after.votes) (a.ballot == ballot) _ slot (λ vote member. member) (λ vote member. member)

  kept_by_start : (i n b : ℕ) (wish : V) (slot : SlotState V) (test : Bool)
      → KeepsVotes slot.votes (if test then record { replica = i; ballot = b; value = wish } ∷ slot.votes else slot.votes)
  kept_by_start i n b wish slot true vote member = Contains_later _ vote slot.votes member
  kept_by_start i n b wish slot false vote member = member

  kept_by_event : (n : ℕ) (event : SlotEvent V) (slot : SlotState V) → KeepsVotes slot.votes (slot_after n event slot).votes
  kept_by_event n (Start i highest wish) slot =
      let b = ballot_for i n highest (slot.acceptors i) in
      both (λ after. KeepsVotes slot.votes after.votes) (nat_lt i n) (start_happens i n b wish slot) slot
      (both (λ after. KeepsVotes slot.votes after.votes) (nat_lt b (2 ^ 31)) (slot_started i n b wish slot) slot (kept_by_start i n b wish slot (b == 0)) (λ vote member. member))
      (λ vote member. member)
  kept_by_event n (Comes i which) slot =
      both (λ after. KeepsVotes slot.votes after.votes) (nat_lt i n) (message_comes i (slice_get slot.sent which) slot) slot (kept_by_message i (slice_get slot.sent which) slot) (λ vote member. member)
  kept_by_event n (Restart i) slot = λ vote member. member

  kept_by_run : (n : ℕ) (events : List (SlotEvent V)) (slot : SlotState V) → KeepsVotes slot.votes (slot_run n events slot).votes
  kept_by_run n [] slot vote member = member
  kept_by_run n (event ∷ events) slot vote member = kept_by_run n events (slot_after n event slot) vote (kept_by_event n event slot vote member)

  -- votes are kept as a schedule goes on
  pub KeepsVotes_run : (n : ℕ) (early late : List (SlotEvent V)) (slot : SlotState V)
      → KeepsVotes (slot_run n early slot).votes (slot_run n (early ++ late) slot).votes
  KeepsVotes_run n [] late slot = kept_by_run n late slot
  KeepsVotes_run n (event ∷ early) late slot = KeepsVotes_run n early late (slot_after n event slot)

  pub IsChosenAt_kept : (n : ℕ) (votes votes' : List (Vote V)) (b : ℕ) (v : V) → KeepsVotes votes votes' → IsChosenAt n votes b v → IsChosenAt n votes' b v
  IsChosenAt_kept n votes votes' b v kept chosen =
      (chosen.0, chosen.1, All-weaker (λ j. HasVote votes j b v) (λ j. HasVote votes' j b v) (λ j vote. kept _ vote) chosen.0 chosen.2)

  -- an attempt that counts a majority of acceptances has had its value chosen
  pub IsChosenAt_counted : (n i : ℕ) (slot : SlotState V) (a : Attempt V) (v : V) → IsSound n slot → slot.attempts i ≡ Some a → a.sending ≡ Some v
      → n < 2 * length a.acceptances → IsChosenAt n slot.votes a.ballot v
  IsChosenAt_counted n i slot a v sound stood sending most =
      let attempt : IsAttempt n slot.votes (bars_of slot.acceptors i) slot.sent i a = subst (λ t. IsAttemptIfAny n slot.votes (bars_of slot.acceptors i) slot.sent i t) stood (sound.attempts i) in
      let voted = subst (λ s. AttemptStands slot.votes slot.sent n a s) sending attempt.stands in
      (a.acceptances, record { within = voted.within; distinct = voted.distinct; most = most }, All-weaker (Contains a.acceptances) (λ j. HasVote slot.votes j a.ballot v) (λ j member. voted.voted j member) a.acceptances (All-contains_itself a.acceptances))

  -- while a value is being sent, the answer that it is chosen means a majority
  majority_from_answer : (sending : Option V) (v : V) (n from : ℕ) (acceptances : List ℕ) → sending ≡ Some v →
      (let answer : AcceptedAnswer = if is_some sending then accepted_answer_heard n (with_replica from acceptances) else accepting.Early in answer) ≡ accepting.Chosen → is_majority n (with_replica from acceptances) ≡ true
  majority_from_answer None v n from acceptances s e = absurd (cc)
  majority_from_answer (Some w) v n from acceptances s e = chosen_test (is_majority n (with_replica from acceptances)) (length (with_replica from acceptances)) e

  -- an attempt that answers to an acceptance that its value is chosen has had it chosen
  pub IsChosenAt_answered : (n i from : ℕ) (slot : SlotState V) (a : Attempt V) (v : V) → IsSound n slot → slot.attempts i ≡ Some a → a.sending ≡ Some v →
      (from ≡ i) ⊎ Contains slot.sent (Accepted from a.ballot) → accepted_answer from a ≡ accepting.Chosen → IsChosenAt n slot.votes a.ballot v
  IsChosenAt_answered n i from slot a v sound stood sending came answer =
      let attempt : IsAttempt n slot.votes (bars_of slot.acceptors i) slot.sent i a = subst (λ t. IsAttemptIfAny n slot.votes (bars_of slot.acceptors i) slot.sent i t) stood (sound.attempts i) in
      let before : AttemptsAreVoted slot.votes n a v = subst (λ s. AttemptStands slot.votes slot.sent n a s) sending attempt.stands in
      let vote : HasVote slot.votes from a.ballot v = elim came [
        | inl own ↦ subst (λ k. HasVote slot.votes k a.ballot v) (attempt.here ∙ sym own) before.own
        | inr member ↦
            let accepted = sound.agreed.messages (Accepted from a.ballot) member in
            subst (λ w. HasVote slot.votes from a.ballot w) (OneValuePerBallot n slot.votes sound.agreed.one_vote sound.agreed.owners from a.replica a.ballot accepted.0 v accepted.1 before.own) accepted.1
      ] in
      let most = most_from_test n a.n (with_replica from a.acceptances) attempt.count (majority_from_answer a.sending v a.n from a.acceptances sending answer) in (
        with_replica from a.acceptances,
        record {
          within = All_with_replica (λ k. k < n) from a.acceptances before.within ((sound.agreed.acceptors from).within a.ballot v vote);
          distinct = IsDistinct_with_replica from a.acceptances before.distinct;
          most = most;
        },
        All_with_replica (λ k. HasVote slot.votes k a.ballot v) from a.acceptances (All-weaker (Contains a.acceptances) (λ j. HasVote slot.votes j a.ballot v) (λ j member. before.voted j member) a.acceptances (All-contains_itself a.acceptances)) vote,
      )
