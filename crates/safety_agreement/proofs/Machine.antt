-- What the machine of one slot does as one of its replicas does something: each time the state that follows, which is sound.
use Rattle.std.proofs.Common.{◌≡◌, ◌∙◌, ℕ, ◌<◌, ◌==◌, Bool, true, false, List, [], ◌∷◌, length, Contains, Option, Some, None, is_some, inl, refl, sym, ap, subst, if◌then◌else◌}
use Rattle.std.proofs.lemmas.Bool.{eq-eqb}
use Rattle.majority.specs.Ballots.{greater_promise, is_majority}
use Rattle.majority.specs.Acceptors.{AcceptorState, with_promise, with_vote, prepare_answer_unless, after_prepare_answer, accept_answer_unless, after_accept_answer}
use Rattle.majority.specs.Proposers.{Attempt, ballot_for, value_to_send, with_heard, with_sending, with_acceptance, promise_answer, promise_answer_unless}
use Rattle.majority.specs.declared.answers.PromiseAnswer.{PromiseAnswer}
use Rattle.majority.specs.declared.answers.PromiseAnswer.TheVariants as promise
use Rattle.majority.specs.Votes.{Vote, HasVote}
use Rattle.majority.specs.Slot.{Message as SlotMessage, Prepare, Promise, Accept, Accepted, SlotState, with_entry, slot_started, sent_for_prepare, sent_for_accept, votes_for_accept, promise_answered}
use Rattle.majority.specs.Agreement.{IsSound, IsAttempt, IsAttemptIfAny, IsTrueMessage, AttemptsAreVoted, AttemptStands, bars_of}
use Rattle.majority.proofs.Entries.{Contains_elim}
use Rattle.majority.proofs.Growth.{Grows, IsAttemptIfAny_kept}
use Rattle.majority.proofs.Lists.{Contains_later}
use Rattle.majority.proofs.Chosen.{OneValuePerBallot}
use Rattle.majority.proofs.Steps.{with_entry_kept, IsSound_same, IsSound_prepare, IsSound_accept}
use Rattle.majority.proofs.Starts.{IsSound_attempt, IsSound_start}
use Rattle.majority.proofs.Promises.{IsSound_promise, IsAttempt_counted}
use Rattle.runs.specs.Names.{Entry}
use Rattle.safety_agreement.proofs.Mirrors.{changed}

abbrev pub vote_of : ℕ → ℕ → Entry → Vote Entry
vote_of i b v = record { replica = i; ballot = b; value = v }

-- the attempt with which a replica begins; it sends its value at once, or else it asks for promises
abbrev pub fresh_attempt : ℕ → ℕ → Bool → ℕ → Entry → Attempt Entry
fresh_attempt n i at_once b wish = record {
  replica = i;
  n = n;
  ballot = b;
  wish = wish;
  promises = i ∷ [];
  reported = None;
  sending = if at_once then Some wish else None;
  acceptances = if at_once then i ∷ [] else [];
}

-- a true message is sent as well
pub say_sound : (n : ℕ) (state : SlotState Entry) → IsSound n state → (m : SlotMessage Entry) → IsTrueMessage n state.votes (bars_of state.acceptors) m
    → IsSound n (record state { sent = m ∷ state.sent })
say_sound n state sound m holds =
    let bars = bars_of state.acceptors in
    let grows : Grows state.votes state.votes bars bars state.sent (m ∷ state.sent) = record {
      votes_kept = λ j c w vote. vote;
      votes_new = λ j c w vote. inl vote;
      bars_grow = λ j c reached. reached;
      sent_kept = λ x c. Contains_later m x state.sent c;
    } in
    record {
      agreed = record {
        one_vote = sound.agreed.one_vote;
        owners = sound.agreed.owners;
        acceptors = sound.agreed.acceptors;
        messages = Contains_elim (IsTrueMessage n state.votes bars) m state.sent holds sound.agreed.messages;
        safe = sound.agreed.safe;
      };
      attempts = λ j. IsAttemptIfAny_kept state.votes state.votes bars bars state.sent (m ∷ state.sent) grows n j (state.attempts j)
          (λ ballot above owned none. none) (sound.attempts j);
    }

module _ (n i : ℕ) (state : SlotState Entry) (within : i < n) (sound : IsSound n state) where
  -- its attempt becomes another that holds
  pub attempt_sound : (attempt : Option (Attempt Entry)) → IsAttemptIfAny n state.votes (bars_of state.acceptors i) state.sent i attempt
      → IsSound n (changed i (state.acceptors i) attempt state.votes state.sent state)
  attempt_sound attempt is =
      IsSound_same n (record state { attempts = with_entry i attempt state.attempts }) (with_entry i (state.acceptors i) state.acceptors)
      (with_entry i attempt state.attempts) (with_entry_kept i (state.acceptors i) state.acceptors refl) refl (IsSound_attempt n i state attempt sound is)

  -- its attempt stays, in a state that says it of the acceptors alone
  back : (acceptors : ℕ → AcceptorState Entry) (votes : List (Vote Entry)) (sent : List (SlotMessage Entry))
      → IsSound n (record { acceptors = acceptors; attempts = state.attempts; votes = votes; sent = sent })
      → IsSound n (record { acceptors = acceptors; attempts = with_entry i (state.attempts i) state.attempts; votes = votes; sent = sent })
  back acceptors votes sent is =
      IsSound_same n (record { acceptors = acceptors; attempts = state.attempts; votes = votes; sent = sent }) acceptors
      (with_entry i (state.attempts i) state.attempts) refl (with_entry_kept i (state.attempts i) state.attempts refl) is

  -- it promises a ballot
  pub promise_sound : (b : ℕ) → greater_promise (state.acceptors i).promised b ≡ None
      → IsSound n (changed i (with_promise b (state.acceptors i)) (state.attempts i) state.votes (Promise i b (state.acceptors i).accepted ∷ state.sent) state)
  promise_sound b free =
      let Answered : Option ℕ → Type 0 = λ o. IsSound n (record {
        acceptors = with_entry i (after_prepare_answer (prepare_answer_unless o (state.acceptors i)) b (state.acceptors i)) state.acceptors;
        attempts = state.attempts;
        votes = state.votes;
        sent = sent_for_prepare (prepare_answer_unless o (state.acceptors i)) i b state.sent;
      }) in
      back (with_entry i (with_promise b (state.acceptors i)) state.acceptors) state.votes (Promise i b (state.acceptors i).accepted ∷ state.sent)
      (subst Answered free (IsSound_prepare n i b state within sound))

  -- it votes as it was asked to
  pub accept_sound : (b : ℕ) (v : Entry) → greater_promise (state.acceptors i).promised b ≡ None → Contains state.sent (Accept b v)
      → IsSound n (changed i (with_vote b v (state.acceptors i)) (state.attempts i) (vote_of i b v ∷ state.votes) (Accepted i b ∷ state.sent) state)
  accept_sound b v free asked =
      let Answered : Option ℕ → Type 0 = λ o. IsSound n (record {
        acceptors = with_entry i (after_accept_answer (accept_answer_unless o) b v (state.acceptors i)) state.acceptors;
        attempts = state.attempts;
        votes = votes_for_accept (accept_answer_unless o) i b v state.votes;
        sent = sent_for_accept (accept_answer_unless o) i b state.sent;
      }) in
      back (with_entry i (with_vote b v (state.acceptors i)) state.acceptors) (vote_of i b v ∷ state.votes) (Accepted i b ∷ state.sent)
      (subst Answered free (IsSound_accept n i b v state within asked sound))

  -- it begins, and votes at once where the ballot is 0
  abbrev pub after_begin : Bool → ℕ → Entry → SlotState Entry
  after_begin at_once b wish =
      changed i (if at_once then with_vote b wish (state.acceptors i) else with_promise b (state.acceptors i)) (Some (fresh_attempt n i at_once b wish))
      (if at_once then vote_of i b wish ∷ state.votes else state.votes) ((if at_once then Accept b wish else Prepare b) ∷ state.sent) state

  pub begin_sound : (at_once : Bool) (b highest : ℕ) (wish : Entry) → (b == 0) ≡ at_once → b ≡ ballot_for i n highest (state.acceptors i)
      → IsSound n (after_begin at_once b wish)
  begin_sound at_once b highest wish zero_is ballot_is =
      subst (λ (t : Bool). IsSound n (after_begin t b wish)) zero_is
      (subst (λ (c : ℕ). IsSound n (slot_started i n c wish state)) (sym ballot_is) (IsSound_start n i wish state within sound highest))

  -- ---- a promise comes to its attempt, and the value is sent

  abbrev pub after_send : ℕ → Option (ℕ × Entry) → Attempt Entry → Entry → SlotState Entry
  after_send from report a v =
      changed i (with_vote a.ballot v (state.acceptors i)) (Some (with_sending v (with_heard from report a))) (vote_of i a.ballot v ∷ state.votes)
      (Accept a.ballot v ∷ state.sent) state

  pub send_sound : (from : ℕ) (report : Option (ℕ × Entry)) (a : Attempt Entry) (v : Entry) → state.attempts i ≡ Some a
      → Contains state.sent (Promise from a.ballot report)
      → is_some a.sending ≡ false → greater_promise (state.acceptors i).promised a.ballot ≡ None
      → is_majority a.n (with_heard from report a).promises ≡ true → value_to_send (state.acceptors i) (with_heard from report a) ≡ v
      → IsSound n (after_send from report a v)
  send_sound from report a v stood member not_yet free most value_is =
      let heard = with_heard from report a in
      let answer : promise_answer from report (state.acceptors i) a ≡ promise.Send v =
      ap (λ (t : Bool). if t then promise.Late else promise_answer_unless (greater_promise (state.acceptors i).promised a.ballot)
      (state.acceptors i) heard) not_yet
      ∙ (ap (λ (o : Option ℕ). promise_answer_unless o (state.acceptors i) heard) free
      ∙ (ap (λ (t : Bool). if t then promise.Send (value_to_send (state.acceptors i) heard) else promise.Waiting (length heard.promises)) most
      ∙ ap promise.Send value_is)) in
      let same : (a.ballot == a.ballot) ≡ true = eq-eqb a.ballot a.ballot refl in
      subst (λ (x : PromiseAnswer Entry). IsSound n (promise_answered x i from report a state)) answer
      (subst (λ (t : Bool). IsSound n (if t then promise_answered (promise_answer from report (state.acceptors i) a) i from report a state else state)) same
      (IsSound_promise n i from a.ballot report state within member sound (Some a) stood))

  -- ---- its attempt

  pub stands_there : (a : Attempt Entry) → state.attempts i ≡ Some a → IsAttempt n state.votes (bars_of state.acceptors i) state.sent i a
  stands_there a stood = subst (IsAttemptIfAny n state.votes (bars_of state.acceptors i) state.sent i) stood (sound.attempts i)

  -- an acceptance is counted that is a vote
  pub count_sound : (from : ℕ) (a : Attempt Entry) (v : Entry) → state.attempts i ≡ Some a → a.sending ≡ Some v → from < n
      → HasVote state.votes from a.ballot v
      → IsSound n (changed i (state.acceptors i) (Some (with_acceptance from a)) state.votes state.sent state)
  count_sound from a v stood sending below vote =
      attempt_sound (Some (with_acceptance from a))
      (IsAttempt_counted n i from a v state.votes (bars_of state.acceptors i) state.sent below vote (stands_there a stood) sending)

  -- a message Accepted is a vote of the value that is being sent
  pub told_vote : (from : ℕ) (a : Attempt Entry) (v : Entry) → state.attempts i ≡ Some a → a.sending ≡ Some v
      → Contains state.sent (Accepted from a.ballot) → (from < n) × HasVote state.votes from a.ballot v
  told_vote from a v stood sending member =
      let before : AttemptsAreVoted state.votes n a v = subst (λ s. AttemptStands state.votes state.sent n a s) sending (stands_there a stood).stands in
      let told = sound.agreed.messages (Accepted from a.ballot) member in
      let same : told.0 ≡ v =
      OneValuePerBallot n state.votes sound.agreed.one_vote sound.agreed.owners from a.replica a.ballot told.0 v told.1 before.own in
      ((sound.agreed.acceptors from).within a.ballot told.0 told.1, subst (λ w. HasVote state.votes from a.ballot w) same told.1)

  -- the own vote is one too
  pub own_vote : (a : Attempt Entry) (v : Entry) → state.attempts i ≡ Some a → a.sending ≡ Some v → HasVote state.votes i a.ballot v
  own_vote a v stood sending =
      let is = stands_there a stood in
      let before : AttemptsAreVoted state.votes n a v = subst (λ s. AttemptStands state.votes state.sent n a s) sending is.stands in
      subst (λ k. HasVote state.votes k a.ballot v) is.here before.own
