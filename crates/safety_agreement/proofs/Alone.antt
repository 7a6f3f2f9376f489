-- A sequencer that is alone hears its own promise: to the machine of one slot it is a promise that reports what its acceptor has, which
-- counts anyway as the value is chosen.
use Rattle.std.proofs.Common.{◌≡◌, ◌∙◌, ℕ, ◌<◌, Bool, true, false, ◌∷◌, Option, Some, None, is_some, refl, sym, ap, subst, arith, nat_lt, if◌then◌else◌}
use mathlib.Core.Path.{fun_ext}
use Rattle.std.proofs.lemmas.Bool.{le-ltb, ltb-true}
use Rattle.majority.specs.Ballots.{greater_promise, is_majority}
use Rattle.majority.specs.Acceptors.{AcceptorState, with_promise, with_vote}
use Rattle.majority.specs.Proposers.{Attempt, value_to_send, value_of_report, with_heard, with_sending, greater_report}
use Rattle.majority.specs.Slot.{Promise, Accept, SlotState, with_entry}
use Rattle.majority.specs.Agreement.{IsSound, IsAttemptIfAny, bars_of}
use Rattle.majority.proofs.Entries.{with_entry_cases, with_entry_other}
use Rattle.majority.proofs.Lists.{Contains_here}
use Rattle.majority.proofs.Steps.{with_entry_here, IsSound_same}
use Rattle.majority.proofs.Promises.{IsAttempt_stands}
use Rattle.majority.proofs.Starts.{IsSound_attempt}
use Rattle.runs.specs.Names.{Entry}
use Rattle.safety_agreement.proofs.Mirrors.{changed}
use Rattle.safety_agreement.proofs.Machine.{vote_of, promise_sound, send_sound, after_send, stands_there}

twice : {X : Type 0} (i : ℕ) (x y : X) (entries : ℕ → X) → with_entry i x entries ≡ with_entry i x (with_entry i y entries)
twice {X} i x y entries =
    sym (fun_ext (with_entry_cases (λ (j : ℕ) (z : X). z ≡ with_entry i x entries j) i x (with_entry i y entries) (sym (with_entry_here i x entries))
    (λ j other. with_entry_other i j y entries other ∙ sym (with_entry_other i j x entries other))))

pub never_less : (b : ℕ) → greater_promise (Some b) b ≡ None
never_less b = ap (λ (t : Bool). if t then Some b else None) (le-ltb b b (omega arith))

-- the own acceptance counts once
again : (test : Bool) (a r : ℕ × Entry) → nat_lt r.0 a.0 ≡ test
    → greater_report (Some a) (if test then Some a else Some r) ≡ greater_report (Some a) (Some r)
again true a r e =
    let less = ltb-true r.0 a.0 e in
    ap (λ (t : Bool). if t then Some a else Some a) (le-ltb a.0 a.0 (omega arith))
    ∙ sym (ap (λ (t : Bool). if t then Some r else Some a) (le-ltb a.0 r.0 (omega (arith, less))))
again false a r e = refl

report_again : (own reported : Option (ℕ × Entry)) → greater_report own (greater_report reported own) ≡ greater_report own (greater_report reported None)
report_again None None = refl
report_again None (Some r) = refl
report_again (Some a) None = ap (λ (t : Bool). if t then Some a else Some a) (le-ltb a.0 a.0 (omega arith))
report_again (Some a) (Some r) = again (nat_lt r.0 a.0) a r refl

module _ (n i : ℕ) (state : SlotState Entry) (within : i < n) (sound : IsSound n state) (a : Attempt Entry) (v : Entry) (stood : state.attempts i ≡ Some a)
    (not_yet : is_some a.sending ≡ false) (free : greater_promise (state.acceptors i).promised a.ballot ≡ None)
    (most : is_majority a.n (with_heard i None a).promises ≡ true) (value_is : value_to_send (state.acceptors i) (with_heard i None a) ≡ v) where
  -- it promises once more, and says what it has accepted
  abbrev reporting : SlotState Entry
  reporting = changed i (with_promise a.ballot (state.acceptors i)) (state.attempts i) state.votes (Promise i a.ballot
      (state.acceptors i).accepted ∷ state.sent) state

  reporting_sound : IsSound n reporting
  reporting_sound = promise_sound n i state within sound a.ballot free

  promised_now : reporting.acceptors i ≡ with_promise a.ballot (state.acceptors i)
  promised_now = with_entry_here i (with_promise a.ballot (state.acceptors i)) state.acceptors

  -- then it hears that, and sends the same value
  abbrev reported : Attempt Entry
  reported = with_sending v (with_heard i (state.acceptors i).accepted a)

  abbrev sending : SlotState Entry
  sending = after_send n i reporting within reporting_sound i (state.acceptors i).accepted a v

  sending_sound : IsSound n sending
  sending_sound =
      send_sound n i reporting within reporting_sound i (state.acceptors i).accepted a v (with_entry_here i (state.attempts i) state.attempts ∙ stood)
      (Contains_here (Promise i a.ballot (state.acceptors i).accepted) state.sent) not_yet
      (subst (λ (x : AcceptorState Entry). greater_promise x.promised a.ballot ≡ None) (sym promised_now) (never_less a.ballot)) most
      (ap (λ (x : AcceptorState Entry). value_to_send x (with_heard i (state.acceptors i).accepted a)) promised_now
      ∙ (ap (λ r. value_of_report r a.wish) (report_again (state.acceptors i).accepted a.reported) ∙ value_is))

  -- the attempt that keeps no report of it stands as well
  unreported : IsAttemptIfAny n sending.votes (bars_of sending.acceptors i) sending.sent i (Some (with_sending v (with_heard i None a)))
  unreported =
      let is = stands_there n i sending within sending_sound reported (with_entry_here i (Some reported) reporting.attempts) in
      IsAttempt_stands n i sending.votes (bars_of sending.acceptors i) sending.sent reported (with_heard i None a).reported (Some v) reported.acceptances is
      (record { own = is.stands.own; within = is.stands.within; distinct = is.stands.distinct; voted = is.stands.voted })

  pub alone_sound : IsSound n (changed i (with_vote a.ballot v (state.acceptors i)) (Some (with_sending v (with_heard i None a)))
      (vote_of i a.ballot v ∷ state.votes)
      (Accept a.ballot v ∷ (Promise i a.ballot (state.acceptors i).accepted ∷ state.sent)) state)
  alone_sound =
      let next : Option (Attempt Entry) = Some (with_sending v (with_heard i None a)) in
      IsSound_same n (record sending { attempts = with_entry i next sending.attempts })
      (with_entry i (with_vote a.ballot v (state.acceptors i)) state.acceptors) (with_entry i next state.attempts)
      (twice i (with_vote a.ballot v (state.acceptors i)) (with_promise a.ballot (state.acceptors i)) state.acceptors)
      (twice i next (state.attempts i) state.attempts ∙ twice i next (Some reported) reporting.attempts)
      (IsSound_attempt n i sending next sending_sound unreported)
