-- One replica's attempt at a ballot: how it starts, what it makes of answers, and what it is sending.
use Rattle.std.specs.Prelude.{◌≡◌, ℕ, ◌^◌, ◌<◌, ◌≤◌, max, Bool, ◌&&◌, ◌==◌, nat_lt, is_some, is_none, if◌then◌else◌, List, [], ◌∷◌, length, Option, Some, None, unwrap_or}
use Rattle.majority.specs.Ballots.{next_ballot, greater_promise, with_replica, is_majority}
use Rattle.majority.specs.Acceptors.{AcceptorState, with_promise, with_vote}
use Rattle.majority.specs.declared.answers.PromiseAnswer.{PromiseAnswer}
use Rattle.majority.specs.declared.answers.PromiseAnswer.TheVariants as promise
use Rattle.majority.specs.declared.answers.AcceptedAnswer.{AcceptedAnswer}
use Rattle.majority.specs.declared.answers.AcceptedAnswer.TheVariants as accepted
use Rattle.majority.specs.declared.errors.StartError.{StartError}
use Rattle.majority.specs.declared.errors.StartError.TheVariants as start

-- one replica's attempt at one ballot: who has promised, the acceptance of the greatest ballot that they reported,
-- the value that is being sent, and who has accepted it
pub record Attempt (V : Type 0) : Type 0 where
  pub replica : ℕ
  pub n : ℕ
  pub ballot : ℕ
  pub wish : V
  pub promises : List ℕ
  pub reported : Option (ℕ × V)
  pub sending : Option V
  pub acceptances : List ℕ

-- Starting.

-- ballot 0 is for replica 0, on an acceptor with neither promise nor acceptance
abbrev pub takes_zero : {V : Type 0} → ℕ → AcceptorState V → Bool
takes_zero replica own = (replica == 0) && (is_none own.promised && is_none own.accepted)

-- the ballot of a new attempt: 0, or the replica's next one above both the highest and the own promise
abbrev pub ballot_for : {V : Type 0} → ℕ → ℕ → ℕ → AcceptorState V → ℕ
ballot_for replica n highest own =
    if takes_zero replica own then 0 else next_ballot replica n (max highest (unwrap_or own.promised 0))

-- a new attempt; at ballot 0 the wish is sent at once
abbrev pub attempt_started : {V : Type 0} → ℕ → ℕ → ℕ → V → Attempt V
attempt_started replica n ballot wish =
    record {
      replica = replica;
      n = n;
      ballot = ballot;
      wish = wish;
      promises = replica ∷ [];
      reported = None;
      sending = if ballot == 0 then Some wish else None;
      acceptances = if ballot == 0 then replica ∷ [] else [];
    }

-- the own acceptor after the start: it accepts the wish at ballot 0, and promises another ballot
abbrev pub own_started : {V : Type 0} → ℕ → V → AcceptorState V → AcceptorState V
own_started ballot wish own = if ballot == 0 then with_vote ballot wish own else with_promise ballot own

-- why an attempt does not start: its ballot is not below 2^31, or else memory was refused
abbrev pub IsStartError : ℕ → ℕ → StartError → Type 0
IsStartError highest ballot (start.NoBallot passed) = (passed ≡ highest) × (2 ^ 31 ≤ ballot)
IsStartError highest ballot start.OutOfMemory = ballot < 2 ^ 31

-- Promises.

-- of two reported acceptances the one of the greater ballot, the first where they are equal
abbrev pub greater_report : {V : Type 0} → Option (ℕ × V) → Option (ℕ × V) → Option (ℕ × V)
greater_report None second = second
greater_report (Some first) None = Some first
greater_report (Some first) (Some second) = if nat_lt first.0 second.0 then Some second else Some first

-- the value that a report tells, or else the wish
abbrev pub value_of_report : {V : Type 0} → Option (ℕ × V) → V → V
value_of_report None wish = wish
value_of_report (Some report) wish = report.1

-- the value to send: of the greatest ballot reported, where the own acceptance counts first, or else the wish
abbrev pub value_to_send : {V : Type 0} → AcceptorState V → Attempt V → V
value_to_send own a = value_of_report (greater_report own.accepted a.reported) a.wish

-- the attempt with one more promise
abbrev pub with_heard : {V : Type 0} → ℕ → Option (ℕ × V) → Attempt V → Attempt V
with_heard from report a =
    record a { promises = with_replica from a.promises; reported = greater_report a.reported report }

-- the attempt as it begins to send; the own replica has accepted
abbrev pub with_sending : {V : Type 0} → V → Attempt V → Attempt V
with_sending value a = record a { sending = Some value; acceptances = a.replica ∷ [] }

-- the answer where the own acceptor promised nothing greater, by what has been heard
abbrev pub promise_answer_heard : {V : Type 0} → AcceptorState V → Attempt V → PromiseAnswer V
promise_answer_heard own heard =
    if is_majority heard.n heard.promises then promise.Send (value_to_send own heard) else promise.Waiting (length heard.promises)

abbrev pub promise_answer_unless : {V : Type 0} → Option ℕ → AcceptorState V → Attempt V → PromiseAnswer V
promise_answer_unless (Some promised) own heard = promise.Lower promised
promise_answer_unless None own heard = promise_answer_heard own heard

-- what the attempt answers to a promise: first whether it is late, then whether the own acceptor promised a greater ballot
abbrev pub promise_answer : {V : Type 0} → ℕ → Option (ℕ × V) → AcceptorState V → Attempt V → PromiseAnswer V
promise_answer from report own a =
    if is_some a.sending then promise.Late
    else promise_answer_unless (greater_promise own.promised a.ballot) own (with_heard from report a)

-- the attempt after that answer
abbrev pub attempt_after_promise : {V : Type 0} → PromiseAnswer V → ℕ → Option (ℕ × V) → Attempt V → Attempt V
attempt_after_promise promise.Late from report a = a
attempt_after_promise (promise.Lower promised) from report a = a
attempt_after_promise (promise.Waiting have) from report a = with_heard from report a
attempt_after_promise (promise.Send value) from report a = with_sending value (with_heard from report a)

-- the own acceptor after that answer
abbrev pub own_after_promise : {V : Type 0} → PromiseAnswer V → ℕ → AcceptorState V → AcceptorState V
own_after_promise promise.Late ballot own = own
own_after_promise (promise.Lower promised) ballot own = own
own_after_promise (promise.Waiting have) ballot own = own
own_after_promise (promise.Send value) ballot own = with_vote ballot value own

-- Acceptances.

abbrev pub with_acceptance : {V : Type 0} → ℕ → Attempt V → Attempt V
with_acceptance from a = record a { acceptances = with_replica from a.acceptances }

abbrev pub accepted_answer_heard : ℕ → List ℕ → AcceptedAnswer
accepted_answer_heard n acceptances =
    if is_majority n acceptances then accepted.Chosen else accepted.Waiting (length acceptances)

-- what the attempt answers to an acceptance
abbrev pub accepted_answer : {V : Type 0} → ℕ → Attempt V → AcceptedAnswer
accepted_answer from a =
    if is_some a.sending then accepted_answer_heard a.n (with_replica from a.acceptances) else accepted.Early

-- the attempt after it
abbrev pub attempt_after_accepted : {V : Type 0} → ℕ → Attempt V → Attempt V
attempt_after_accepted from a = if is_some a.sending then with_acceptance from a else a
