-- One slot as a machine over every schedule, of which agreement is said.
use Rattle.std.specs.Prelude.{ℕ, ◌^◌, ◌==◌, nat_lt, if◌then◌else◌, List, [], ◌∷◌, slice_get, Option, Some, None}
use Rattle.majority.specs.Acceptors.{AcceptorState, fresh_acceptor, prepare_answer, after_prepare, accept_answer, after_accept}
use Rattle.majority.specs.Proposers.{Attempt, ballot_for, attempt_started, own_started, promise_answer, attempt_after_promise, own_after_promise, attempt_after_accepted}
use Rattle.majority.specs.Votes.{Vote}
use Rattle.majority.specs.declared.answers.PrepareAnswer.{PrepareAnswer}
use Rattle.majority.specs.declared.answers.PrepareAnswer.TheVariants as prepare
use Rattle.majority.specs.declared.answers.AcceptAnswer.{AcceptAnswer}
use Rattle.majority.specs.declared.answers.AcceptAnswer.TheVariants as accept
use Rattle.majority.specs.declared.answers.PromiseAnswer.{PromiseAnswer}
use Rattle.majority.specs.declared.answers.PromiseAnswer.TheVariants as promise

-- One slot as a pure machine. Whatever was sent may come, to anyone, at any time and again; a message that is lost
-- never comes.

-- what the replicas send one another
pub data Message (V : Type 0) : Type 0 where
  Prepare : (ballot : ℕ) → Message V
  Promise : (from ballot : ℕ) (report : Option (ℕ × V)) → Message V
  Accept : (ballot : ℕ) (value : V) → Message V
  Accepted : (from ballot : ℕ) → Message V

-- what may happen next
pub data SlotEvent (V : Type 0) : Type 0 where
  -- the replica starts an attempt, in the place of one that it may have
  Start : (replica highest : ℕ) (wish : V) → SlotEvent V
  -- a message comes to the replica, by its place in what was sent
  Comes : (replica which : ℕ) → SlotEvent V
  -- the replica loses its attempt, and keeps its acceptor
  Restart : (replica : ℕ) → SlotEvent V

-- each replica's acceptor and attempt; all votes ever cast and all messages ever sent, the newest first
pub record SlotState (V : Type 0) : Type 0 where
  pub acceptors : ℕ → AcceptorState V
  pub attempts : ℕ → Option (Attempt V)
  pub votes : List (Vote V)
  pub sent : List (Message V)

-- nothing has happened
abbrev pub fresh_slot : {V : Type 0} → SlotState V
fresh_slot = record { acceptors = λ replica. fresh_acceptor; attempts = λ replica. None; votes = []; sent = [] }

-- one replica's entry changed
abbrev pub with_entry : {X : Type 0} → ℕ → X → (ℕ → X) → ℕ → X
with_entry replica x entries = λ other. if other == replica then x else entries other

-- a start; at ballot 0 it casts a vote and asks the others to accept, else it asks them to promise
abbrev pub slot_started : {V : Type 0} → ℕ → ℕ → ℕ → V → SlotState V → SlotState V
slot_started replica n ballot wish slot =
    record {
      acceptors = with_entry replica (own_started ballot wish (slot.acceptors replica)) slot.acceptors;
      attempts = with_entry replica (Some (attempt_started replica n ballot wish)) slot.attempts;
      votes = if ballot == 0 then record { replica = replica; ballot = ballot; value = wish } ∷ slot.votes else slot.votes;
      sent = (if ballot == 0 then Accept ballot wish else Prepare ballot) ∷ slot.sent;
    }

abbrev pub start_happens : {V : Type 0} → ℕ → ℕ → ℕ → V → SlotState V → SlotState V
start_happens replica n ballot wish slot = if nat_lt ballot (2 ^ 31) then slot_started replica n ballot wish slot else slot

-- a prepare comes; a promise goes back
abbrev pub sent_for_prepare : {V : Type 0} → PrepareAnswer V → ℕ → ℕ → List (Message V) → List (Message V)
sent_for_prepare (prepare.Lower promised) replica ballot sent = sent
sent_for_prepare (prepare.Promised report) replica ballot sent = Promise replica ballot report ∷ sent

abbrev pub prepare_comes : {V : Type 0} → ℕ → ℕ → SlotState V → SlotState V
prepare_comes replica ballot slot =
    record {
      acceptors = with_entry replica (after_prepare ballot (slot.acceptors replica)) slot.acceptors;
      attempts = slot.attempts;
      votes = slot.votes;
      sent = sent_for_prepare (prepare_answer ballot (slot.acceptors replica)) replica ballot slot.sent;
    }

-- an accept comes; where it is taken, that is a vote, and the acceptance goes back
abbrev pub votes_for_accept : {V : Type 0} → AcceptAnswer → ℕ → ℕ → V → List (Vote V) → List (Vote V)
votes_for_accept (accept.Lower promised) replica ballot value votes = votes
votes_for_accept accept.Taken replica ballot value votes = record { replica = replica; ballot = ballot; value = value } ∷ votes

abbrev pub sent_for_accept : {V : Type 0} → AcceptAnswer → ℕ → ℕ → List (Message V) → List (Message V)
sent_for_accept (accept.Lower promised) replica ballot sent = sent
sent_for_accept accept.Taken replica ballot sent = Accepted replica ballot ∷ sent

abbrev pub accept_comes : {V : Type 0} → ℕ → ℕ → V → SlotState V → SlotState V
accept_comes replica ballot value slot =
    record {
      acceptors = with_entry replica (after_accept ballot value (slot.acceptors replica)) slot.acceptors;
      attempts = slot.attempts;
      votes = votes_for_accept (accept_answer ballot (slot.acceptors replica)) replica ballot value slot.votes;
      sent = sent_for_accept (accept_answer ballot (slot.acceptors replica)) replica ballot slot.sent;
    }

-- a promise comes to the attempt of its ballot; a value that is sent is the own replica's vote
abbrev pub votes_for_promise : {V : Type 0} → PromiseAnswer V → ℕ → ℕ → List (Vote V) → List (Vote V)
votes_for_promise promise.Late replica ballot votes = votes
votes_for_promise (promise.Lower promised) replica ballot votes = votes
votes_for_promise (promise.Waiting have) replica ballot votes = votes
votes_for_promise (promise.Send value) replica ballot votes = record { replica = replica; ballot = ballot; value = value } ∷ votes

abbrev pub sent_for_promise : {V : Type 0} → PromiseAnswer V → ℕ → List (Message V) → List (Message V)
sent_for_promise promise.Late ballot sent = sent
sent_for_promise (promise.Lower promised) ballot sent = sent
sent_for_promise (promise.Waiting have) ballot sent = sent
sent_for_promise (promise.Send value) ballot sent = Accept ballot value ∷ sent

abbrev pub promise_answered : {V : Type 0} → PromiseAnswer V → ℕ → ℕ → Option (ℕ × V) → Attempt V → SlotState V → SlotState V
promise_answered answer replica from report a slot =
    record {
      acceptors = with_entry replica (own_after_promise answer a.ballot (slot.acceptors replica)) slot.acceptors;
      attempts = with_entry replica (Some (attempt_after_promise answer from report a)) slot.attempts;
      votes = votes_for_promise answer replica a.ballot slot.votes;
      sent = sent_for_promise answer a.ballot slot.sent;
    }

abbrev pub promise_comes : {V : Type 0} → ℕ → ℕ → ℕ → Option (ℕ × V) → Option (Attempt V) → SlotState V → SlotState V
promise_comes replica from ballot report None slot = slot
promise_comes replica from ballot report (Some a) slot =
    if a.ballot == ballot
    then promise_answered (promise_answer from report (slot.acceptors replica) a) replica from report a slot
    else slot

-- an acceptance comes to the attempt of its ballot
abbrev pub accepted_comes : {V : Type 0} → ℕ → ℕ → ℕ → Option (Attempt V) → SlotState V → SlotState V
accepted_comes replica from ballot None slot = slot
accepted_comes replica from ballot (Some a) slot =
    if a.ballot == ballot
    then record slot { attempts = with_entry replica (Some (attempt_after_accepted from a)) slot.attempts }
    else slot

abbrev pub message_comes : {V : Type 0} → ℕ → Option (Message V) → SlotState V → SlotState V
message_comes replica None slot = slot
message_comes replica (Some (Prepare ballot)) slot = prepare_comes replica ballot slot
message_comes replica (Some (Promise from ballot report)) slot = promise_comes replica from ballot report (slot.attempts replica) slot
message_comes replica (Some (Accept ballot value)) slot = accept_comes replica ballot value slot
message_comes replica (Some (Accepted from ballot)) slot = accepted_comes replica from ballot (slot.attempts replica) slot

-- one event among n replicas; one at a number that is no replica's changes nothing
abbrev pub slot_after : {V : Type 0} → ℕ → SlotEvent V → SlotState V → SlotState V
slot_after n (Start replica highest wish) slot =
    if nat_lt replica n then start_happens replica n (ballot_for replica n highest (slot.acceptors replica)) wish slot else slot
slot_after n (Comes replica which) slot =
    if nat_lt replica n then message_comes replica (slice_get slot.sent which) slot else slot
slot_after n (Restart replica) slot = record slot { attempts = with_entry replica None slot.attempts }

-- a whole schedule
abbrev pub slot_run : {V : Type 0} → ℕ → List (SlotEvent V) → SlotState V → SlotState V
slot_run n [] slot = slot
slot_run n (event ∷ events) slot = slot_run n events (slot_after n event slot)
