-- The acceptor of one slot: its state, and what it answers.
use Rattle.std.specs.Prelude.{ℕ, Option, Some, None}
use Rattle.majority.specs.Ballots.{greater_promise}
use Rattle.majority.specs.declared.answers.PrepareAnswer.{PrepareAnswer}
use Rattle.majority.specs.declared.answers.PrepareAnswer.TheVariants as prepare
use Rattle.majority.specs.declared.answers.AcceptAnswer.{AcceptAnswer}
use Rattle.majority.specs.declared.answers.AcceptAnswer.TheVariants as accept

-- what a replica has promised and accepted for one slot; an acceptance has its ballot
pub record AcceptorState (V : Type 0) : Type 0 where
  pub promised : Option ℕ
  pub accepted : Option (ℕ × V)

-- nothing promised, nothing accepted
abbrev pub fresh_acceptor : {V : Type 0} → AcceptorState V
fresh_acceptor = record { promised = None; accepted = None }

-- the ballot is promised
abbrev pub with_promise : {V : Type 0} → ℕ → AcceptorState V → AcceptorState V
with_promise ballot own = record { promised = Some ballot; accepted = own.accepted }

-- the value is accepted at the ballot, which is promised with it
abbrev pub with_vote : {V : Type 0} → ℕ → V → AcceptorState V → AcceptorState V
with_vote ballot value own = record { promised = Some ballot; accepted = Some (ballot, value) }

-- what the acceptor answers, and its state after an answer

abbrev pub prepare_answer_unless : {V : Type 0} → Option ℕ → AcceptorState V → PrepareAnswer V
prepare_answer_unless (Some promised) own = prepare.Lower promised
prepare_answer_unless None own = prepare.Promised own.accepted

abbrev pub prepare_answer : {V : Type 0} → ℕ → AcceptorState V → PrepareAnswer V
prepare_answer ballot own = prepare_answer_unless (greater_promise own.promised ballot) own

abbrev pub after_prepare_answer : {V : Type 0} → PrepareAnswer V → ℕ → AcceptorState V → AcceptorState V
after_prepare_answer (prepare.Lower promised) ballot own = own
after_prepare_answer (prepare.Promised accepted) ballot own = with_promise ballot own

abbrev pub after_prepare : {V : Type 0} → ℕ → AcceptorState V → AcceptorState V
after_prepare ballot own = after_prepare_answer (prepare_answer ballot own) ballot own

abbrev pub accept_answer_unless : Option ℕ → AcceptAnswer
accept_answer_unless (Some promised) = accept.Lower promised
accept_answer_unless None = accept.Taken

abbrev pub accept_answer : {V : Type 0} → ℕ → AcceptorState V → AcceptAnswer
accept_answer ballot own = accept_answer_unless (greater_promise own.promised ballot)

abbrev pub after_accept_answer : {V : Type 0} → AcceptAnswer → ℕ → V → AcceptorState V → AcceptorState V
after_accept_answer (accept.Lower promised) ballot value own = own
after_accept_answer accept.Taken ballot value own = with_vote ballot value own

abbrev pub after_accept : {V : Type 0} → ℕ → V → AcceptorState V → AcceptorState V
after_accept ballot value own = after_accept_answer (accept_answer ballot own) ballot value own
