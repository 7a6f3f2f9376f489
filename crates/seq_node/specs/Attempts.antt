-- An attempt: promises and acceptances that come to it, and how it begins.
use Rattle.std.specs.Prelude.{ℕ, ◌^◌, ◌==◌, nat_lt, if◌then◌else◌, Option, Some, None}
use Rattle.majority.specs.Acceptors.{AcceptorState}
use Rattle.majority.specs.Proposers.{Attempt, ballot_for, attempt_started, own_started, promise_answer, attempt_after_promise, own_after_promise, accepted_answer, attempt_after_accepted}
use Rattle.majority.specs.declared.answers.PromiseAnswer.{PromiseAnswer}
use Rattle.majority.specs.declared.answers.PromiseAnswer.TheVariants as promise
use Rattle.majority.specs.declared.answers.AcceptedAnswer.{AcceptedAnswer}
use Rattle.majority.specs.declared.answers.AcceptedAnswer.TheVariants as accepted
use Rattle.msg_wire.specs.Nodes.{number_of}
use Rattle.node_rules.specs.Names.{Entry}
use Rattle.node_rules.specs.Names.items
use Rattle.node_rules.specs.Names.whats
use Rattle.node_rules.specs.Nodes.{has_slot}
use Rattle.node_rules.specs.Turns.{Turn, cfg_of, me_of, own_of, count_known, agreed, put_own, store, send_all}
use Rattle.seq_node.specs.States.{SlotAttempt, SequencerState, acceptor_at, with_acceptor, with_attempt, with_idle, standing_ballot, attempt_for}
use Rattle.seq_node.specs.Values.{wished_value, value_for}
use Rattle.seq_node.specs.Learning.{other_sequencers, decide}

-- the attempt goes on as this one, and the slot's acceptor is this one
abbrev pub goes_on : SlotAttempt → Attempt Entry → AcceptorState Entry → SequencerState → SequencerState
goes_on a attempt acceptor s = with_attempt (Some (record a { attempt = attempt })) (with_acceptor a.slot acceptor s)

-- ---- sending a value: it is accepted here, and the others are asked to accept it

abbrev pub send_value : ℕ → ℕ → Entry → Turn SequencerState → Turn SequencerState
send_value slot ballot entry t =
    send_all (other_sequencers t) (whats.Accept slot ballot entry) (store (items.Accepted slot ballot entry) t)

-- ---- Promise

-- what follows the attempt's answer to a promise: a value to send is sent
abbrev pub promise_answered : PromiseAnswer Entry → ℕ → ℕ → Turn SequencerState → Turn SequencerState
promise_answered (promise.Send value) slot ballot t = send_value slot ballot value t
promise_answered promise.Late slot ballot t = t
promise_answered (promise.Lower promised) slot ballot t = t
promise_answered (promise.Waiting have) slot ballot t = t

-- the attempt and the own acceptor after a promise with this answer
abbrev pub promise_counted : PromiseAnswer Entry → ℕ → Option (ℕ × Entry) → SlotAttempt → Turn SequencerState → Turn SequencerState
promise_counted answer replica report a t =
    promise_answered answer a.slot a.attempt.ballot
    (put_own (goes_on a (attempt_after_promise answer replica report a.attempt) (own_after_promise answer a.attempt.ballot (acceptor_at (own_of t) a.slot)) (own_of t)) t)

abbrev pub promise_for : Option SlotAttempt → ℕ → Option (ℕ × Entry) → Turn SequencerState → Turn SequencerState
promise_for None replica report t = t
promise_for (Some a) replica report t =
    promise_counted (promise_answer replica report (acceptor_at (own_of t) a.slot) a.attempt) replica report a t

-- Promise: it goes to the attempt whose slot and ballot it has
abbrev pub hear_promise : ℕ → ℕ → ℕ → Option (ℕ × Entry) → Turn SequencerState → Turn SequencerState
hear_promise replica slot ballot report t = promise_for (attempt_for slot ballot (own_of t).attempt) replica report t

-- ---- Accepted

-- what follows the attempt's answer to an acceptance: a chosen value is decided
abbrev pub acceptance_answered : AcceptedAnswer → Option Entry → Turn SequencerState → Turn SequencerState
acceptance_answered accepted.Chosen (Some value) t = decide value t
acceptance_answered accepted.Chosen None t = t
acceptance_answered (accepted.Waiting have) sending t = t
acceptance_answered accepted.Early sending t = t

abbrev pub acceptance_for : Option SlotAttempt → ℕ → Turn SequencerState → Turn SequencerState
acceptance_for None replica t = t
acceptance_for (Some a) replica t =
    acceptance_answered (accepted_answer replica a.attempt) a.attempt.sending
    (put_own (with_attempt (Some (record a { attempt = attempt_after_accepted replica a.attempt })) (own_of t)) t)

-- Accepted: it goes to the attempt whose slot and ballot it has
abbrev pub hear_acceptance : ℕ → ℕ → ℕ → Turn SequencerState → Turn SequencerState
hear_acceptance replica slot ballot t = acceptance_for (attempt_for slot ballot (own_of t).attempt) replica t

-- ---- beginning

-- a new attempt stands, in the place of one that may stand
abbrev pub attempt_stands : ℕ → ℕ → Entry → Turn SequencerState → SequencerState
attempt_stands slot ballot value t =
    with_idle 0
    (with_attempt
    (Some (record { slot = slot; attempt = attempt_started (number_of (me_of t)) (cfg_of t).seqs ballot value; wished = wished_value (agreed t) (own_of t) }))
    (with_acceptor slot (own_started ballot value (acceptor_at (own_of t) slot)) (own_of t)))

-- at ballot 0 the value is sent at once; another ballot is promised here, and the others are asked to promise it
abbrev pub first_sends : ℕ → ℕ → Entry → Turn SequencerState → Turn SequencerState
first_sends slot ballot value t =
    if ballot == 0 then send_value slot 0 value t
    else send_all (other_sequencers t) (whats.Prepare slot ballot) (store (items.Promised slot ballot) t)

-- a sequencer that is alone is a majority: its own promise and acceptance are heard at once
abbrev pub alone : ℕ → ℕ → Turn SequencerState → Turn SequencerState
alone slot ballot t =
    if (cfg_of t).seqs == 1 then hear_acceptance 0 slot ballot (hear_promise 0 slot ballot None t) else t

-- a ballot, where it is below 2^31
abbrev pub ballot_below : ℕ → Option ℕ
ballot_below ballot = if nat_lt ballot (2 ^ 31) then Some ballot else None

-- where no ballot below 2^31 is left nothing begins
abbrev pub begin_at : ℕ → ℕ → Entry → Turn SequencerState → Turn SequencerState
begin_at slot ballot value t =
    if nat_lt ballot (2 ^ 31) then alone slot ballot (first_sends slot ballot value (put_own (attempt_stands slot ballot value t) t)) else t

-- the ballot of a new attempt at a slot: above that of the attempt that stands for it
abbrev pub new_ballot : ℕ → Turn SequencerState → ℕ
new_ballot slot t =
    ballot_for (number_of (me_of t)) (cfg_of t).seqs (standing_ballot slot (own_of t).attempt) (acceptor_at (own_of t) slot)

abbrev pub begin_with : Option Entry → Turn SequencerState → Turn SequencerState
begin_with None t = t
begin_with (Some value) t = begin_at (count_known t) (new_ballot (count_known t) t) value t

-- beginning at the next slot, where there is a slot and a value
abbrev pub begin : Turn SequencerState → Turn SequencerState
begin t = if has_slot t.state.base then begin_with (value_for (agreed t) (own_of t)) t else t
