-- A sequencer's whole step is made of the places of its table.
use Rattle.std.proofs.Common.{◌≡◌, ℕ, ◌+◌, ◌-◌, ◌^◌, ◌==◌, ◌&&◌, Bool, true, false, nat_lt, List, [], ◌∷◌, ◌++◌, length, replicate, Option, Some, None, is_none, is_some, refl, sym, ap, subst, ◌∙◌, arith}
use Rattle.std.specs.Prelude.{if◌then◌else◌, nat_le}
use Rattle.std.specs.List.{fold, slice_get}
use Rattle.std.proofs.lemmas.Bool.{eqb-true, and_parts}
use Rattle.std.proofs.lemmas.List.{length-append, length-replicate, get_or-set_same}
use Rattle.majority.specs.Ballots.{greater_promise, with_replica, is_majority}
use Rattle.majority.specs.Acceptors.{AcceptorState, fresh_acceptor, with_promise, with_vote, prepare_answer_unless, accept_answer_unless}
use Rattle.majority.specs.Proposers.{Attempt, value_to_send, with_heard, with_acceptance, promise_answer, promise_answer_unless, accepted_answer_heard}
use Rattle.majority.specs.declared.answers.PromiseAnswer.{PromiseAnswer}
use Rattle.majority.specs.declared.answers.PromiseAnswer.TheVariants as promise
use Rattle.majority.specs.declared.answers.AcceptedAnswer.{AcceptedAnswer}
use Rattle.majority.specs.declared.answers.AcceptedAnswer.TheVariants as acceptance
use Rattle.msg_wire.specs.Nodes.{number_of}
use Rattle.node_rules.specs.Names.{NodeId, Entry, Command, What, Event}
use Rattle.node_rules.specs.Names.nodes
use Rattle.node_rules.specs.Names.sides
use Rattle.node_rules.specs.Names.items
use Rattle.node_rules.specs.Names.whats
use Rattle.node_rules.specs.Names.events
use Rattle.node_rules.specs.Nodes.{Base, Node, has_slot}
use Rattle.node_rules.specs.Turns.{Turn, started, cfg_of, me_of, own_of, known_of, count_known, agreed, put_own, store, send, send_all}
use Rattle.node_rules.specs.Rules.{learn, tick}
use Rattle.seq_node.specs.States.{SlotAttempt, SequencerState, acceptor_at, reaching, with_acceptor, with_attempt, attempt_for}
use Rattle.seq_node.specs.Values.{lagging_rows, has_uncovered, value_for}
use Rattle.seq_node.specs.Learning.{on_learned, decide}
use Rattle.seq_node.specs.Attempts.{send_value, promise_counted, promise_for, hear_promise, acceptance_answered, acceptance_for, hear_acceptance, first_sends, attempt_stands, alone, new_ballot, begin_with, begin}
use Rattle.seq_node.specs.Rules.{tell, prepare_answered, accept_answered, with_wish, begin_if_free, fill, fill_lagging, idle_longer, patience, on_tick}
use Rattle.seq_node.specs.Steps.{hear, handle, ends_with_beginning, finish, sequencer_step}
use Rattle.node_rules.proofs.Lists.{on_test, on_option, on_fold}
use Rattle.node_rules.proofs.Places.{Comes}
use Rattle.node_rules.proofs.Walks.{walk_sends, walk_decided_by, walk_tick, walk_heed}
use Rattle.seq_node.proofs.Ballots.{promises_it, accepts_it}
use Rattle.seq_node.proofs.Places.{AsksFor, by_learn, by_prepare, by_accept, Promising, promise_comes, promise_alone, Accepting, acceptance_comes, acceptance_alone, told, chosen, Begins, Counts, is_late, is_lower, is_waiting, Says, tells, announces, promises, accepts, prepares, proposes, fills, others_of, begun, sending, promised, accepted, begins_at_once, begins, sends, waits, hears, reports, wishes, idles, SequencerSites}

-- ---- what the places know

-- an acceptor that was put at a slot is there
there : (own : SequencerState) (slot : ℕ) (acceptor : AcceptorState Entry) → acceptor_at (with_acceptor slot acceptor own) slot ≡ acceptor
there own slot acceptor =
    let padding = length-append own.acceptors (replicate (slot + 1 - length own.acceptors) fresh_acceptor) in
    let fresh : AcceptorState Entry = fresh_acceptor in
    let padded = length-replicate (slot + 1 - length own.acceptors) fresh in
    get_or-set_same (reaching (slot + 1) own.acceptors) slot acceptor fresh (omega (arith, padding, padded))

-- what is known of a slot and a ballot is known of those of the attempt that stands for them
on_attempt : (P : Option SlotAttempt → Type 0) (Q : ℕ → ℕ → Type 0) (slot ballot : ℕ) (o : Option SlotAttempt) → Q slot ballot → P None
    → ((a : SlotAttempt) → o ≡ Some a → Q a.slot a.attempt.ballot → P (Some a)) → P (attempt_for slot ballot o)
on_attempt P Q slot ballot None known none one = none
on_attempt P Q slot ballot (Some a) known none one =
    on_test P ((a.slot == slot) && (a.attempt.ballot == ballot)) (Some a) None
    (λ both.
    let parts = and_parts (a.slot == slot) (a.attempt.ballot == ballot) both in
    one a refl
    (subst (λ (b : ℕ). Q a.slot b) (sym (eqb-true a.attempt.ballot ballot parts.1)) (subst (λ (x : ℕ). Q x ballot) (sym (eqb-true a.slot slot parts.0)) known)))
    (λ _. none)

-- the last entry is at the end
last_at : {X : Type 0} → (xs : List X) (x : X) → slice_get (xs ++ x ∷ []) (length xs) ≡ Some x
last_at [] x = refl
last_at (y ∷ xs) x = last_at xs x

-- a promise that is counted leaves what every node has
counted_base : (answer : PromiseAnswer Entry) (replica : ℕ) (report : Option (ℕ × Entry)) (a : SlotAttempt) (t : Turn SequencerState)
    → (promise_counted answer replica report a t).state.base ≡ t.state.base
counted_base (promise.Send value) replica report a t = refl
counted_base promise.Late replica report a t = refl
counted_base (promise.Lower greater) replica report a t = refl
counted_base (promise.Waiting have) replica report a t = refl

promised_base : (o : Option SlotAttempt) (replica : ℕ) (report : Option (ℕ × Entry)) (t : Turn SequencerState)
    → (promise_for o replica report t).state.base ≡ t.state.base
promised_base None replica report t = refl
promised_base (Some a) replica report t = counted_base (promise_answer replica report (acceptor_at (own_of t) a.slot) a.attempt) replica report a t

-- ---- the walk

module _ {W : Turn SequencerState → Type 0} {n : Node SequencerState} {event : Event} (s : SequencerSites W n event) where
  -- ---- Learn, Prepare, Accept

  walk_tell : (to : NodeId) (slot : ℕ) (t : Turn SequencerState) → AsksFor n event to slot → nat_lt slot (count_known t) ≡ true → W t → W (tell to slot t)
  walk_tell to slot t asks known w =
      on_option W (λ entry. send to (whats.Decided slot (count_known t) entry) t) (slice_get (known_of t) slot) t
      (λ entry at. s.says t to (whats.Decided slot (count_known t) entry) (tells to slot entry asks known at) w) w

  walk_prepare : (greater : Option ℕ) (from : NodeId) (slot ballot : ℕ) (t : Turn SequencerState)
      → greater_promise (acceptor_at (own_of t) slot).promised ballot ≡ greater
      → Comes n event from (whats.Prepare slot ballot) → nat_lt slot (count_known t) ≡ false → W t
      → W (prepare_answered (prepare_answer_unless greater (acceptor_at (own_of t) slot)) from slot ballot t)
  walk_prepare (Some greater) from slot ballot t e comes unknown w = w
  walk_prepare None from slot ballot t e comes unknown w =
      let own : AcceptorState Entry = acceptor_at (own_of t) slot in
      let after : AcceptorState Entry → Turn SequencerState = λ x. store (items.Promised slot ballot) (put_own (with_acceptor slot x (own_of t)) t) in
      subst (λ (x : AcceptorState Entry). W (send from (whats.Promise slot ballot own.accepted) (after x))) (sym (promises_it ballot own e))
      (s.says _ from (whats.Promise slot ballot own.accepted) (promises from slot ballot own.accepted comes unknown (there (own_of t) slot (with_promise ballot own)))
      (s.stores t _ _ (promised from slot ballot comes (record { unknown = unknown; none_greater = e })) w))

  walk_accept : (greater : Option ℕ) (from : NodeId) (slot ballot : ℕ) (entry : Entry) (t : Turn SequencerState)
      → greater_promise (acceptor_at (own_of t) slot).promised ballot ≡ greater
      → Comes n event from (whats.Accept slot ballot entry) → nat_lt slot (count_known t) ≡ false → W t
      → W (accept_answered (accept_answer_unless greater) from slot ballot entry t)
  walk_accept (Some greater) from slot ballot entry t e comes unknown w = w
  walk_accept None from slot ballot entry t e comes unknown w =
      let own : AcceptorState Entry = acceptor_at (own_of t) slot in
      let after : AcceptorState Entry → Turn SequencerState = λ x. store (items.Accepted slot ballot entry) (put_own (with_acceptor slot x (own_of t)) t) in
      subst (λ (x : AcceptorState Entry). W (send from (whats.Accepted slot ballot) (after x))) (sym (accepts_it ballot entry own e))
      (s.says _ from (whats.Accepted slot ballot) (accepts from slot ballot entry comes unknown (there (own_of t) slot (with_vote ballot entry own)))
      (s.stores t _ _ (accepted from slot ballot entry comes (record { unknown = unknown; none_greater = e })) w))

  -- ---- Promise

  walk_value : (a : SlotAttempt) (replica : ℕ) (report : Option (ℕ × Entry)) (value : Entry) (t : Turn SequencerState)
      → W (store (items.Accepted a.slot a.attempt.ballot value) (put_own (sending a replica report value (own_of t)) t))
      → W (send_value a.slot a.attempt.ballot value (put_own (sending a replica report value (own_of t)) t))
  walk_value a replica report value t w =
      walk_sends s _ (whats.Accept a.slot a.attempt.ballot value) _
      (λ i to at. proposes to i _ value at refl refl (there (own_of t) a.slot (with_vote a.attempt.ballot value (acceptor_at (own_of t) a.slot)))) w

  walk_early : (greater : Option ℕ) (a : SlotAttempt) (replica : ℕ) (report : Option (ℕ × Entry)) (t : Turn SequencerState)
      → greater_promise (acceptor_at (own_of t) a.slot).promised a.attempt.ballot ≡ greater
      → Counts n event t.state a replica report → is_some a.attempt.sending ≡ false → W t
      → W (promise_counted (promise_answer_unless greater (acceptor_at (own_of t) a.slot) (with_heard replica report a.attempt)) replica report a t)
  walk_early (Some greater) a replica report t e counts early w = s.changes t _ (waits a replica report a.attempt counts (is_lower greater e)) w
  walk_early None a replica report t e counts early w =
      let heard : Attempt Entry = with_heard replica report a.attempt in
      let value : Entry = value_to_send (acceptor_at (own_of t) a.slot) heard in
      on_test (λ (answer : PromiseAnswer Entry). W (promise_counted answer replica report a t)) (is_majority heard.n heard.promises) (promise.Send value)
      (promise.Waiting (length heard.promises))
      (λ most. walk_value a replica report value t (s.stores t _ _ (sends a replica report value counts (record { not_yet = early; none_greater = e; majority = most; value_is = refl })) w))
      (λ few. s.changes t _ (waits a replica report heard counts (is_waiting early few)) w)

  walk_counts : (a : SlotAttempt) (replica : ℕ) (report : Option (ℕ × Entry)) (t : Turn SequencerState) → Counts n event t.state a replica report → W t
      → W (promise_counted (promise_answer replica report (acceptor_at (own_of t) a.slot) a.attempt) replica report a t)
  walk_counts a replica report t counts w =
      let greater : Option ℕ = greater_promise (acceptor_at (own_of t) a.slot).promised a.attempt.ballot in
      on_test (λ (answer : PromiseAnswer Entry). W (promise_counted answer replica report a t)) (is_some a.attempt.sending) promise.Late
      (promise_answer_unless greater (acceptor_at (own_of t) a.slot) (with_heard replica report a.attempt))
      (λ late. s.changes t _ (waits a replica report a.attempt counts (is_late late)) w)
      (λ early. walk_early greater a replica report t refl counts early w)

  pub walk_promise : (replica slot ballot : ℕ) (report : Option (ℕ × Entry)) (t : Turn SequencerState) → Promising n event t.state slot ballot replica report
      → W t → W (hear_promise replica slot ballot report t)
  walk_promise replica slot ballot report t comes w =
      on_attempt (λ o. W (promise_for o replica report t)) (λ x b. Promising n event t.state x b replica report) slot ballot (own_of t).attempt comes w
      (λ a stands promise. walk_counts a replica report t (record { stands = stands; promise = promise }) w)

  -- ---- Accepted

  walk_decide : (a : SlotAttempt) (value : Entry) (t : Turn SequencerState) → (own_of t).attempt ≡ Some a → a.attempt.sending ≡ Some value
      → is_majority a.attempt.n a.attempt.acceptances ≡ true
      → W t → W (decide value t)
  walk_decide a value t stands sent most w =
      walk_sends s _ (whats.Decided (count_known t) (count_known t + 1) value) (learn on_learned value t)
      (λ i to at. announces to i (count_known t) value at (length-append (known_of t) (value ∷ [])) (last_at (known_of t) value))
      (s.learns t value (chosen a stands sent most) w)

  walk_acceptance_by : (sent : Option Entry) (a : SlotAttempt) (replica : ℕ) (t : Turn SequencerState) → a.attempt.sending ≡ sent → (own_of t).attempt ≡ Some a
      → Accepting n event t.state a.slot a.attempt.ballot replica → W t
      → W (acceptance_answered (if is_some sent then accepted_answer_heard a.attempt.n (with_replica replica a.attempt.acceptances) else acceptance.Early) sent
      (put_own (with_attempt (Some (record a { attempt = if is_some sent then with_acceptance replica a.attempt else a.attempt })) (own_of t)) t))
  walk_acceptance_by None a replica t e stands comes w = subst (λ (o : Option SlotAttempt). W (put_own (with_attempt o (own_of t)) t)) stands w
  walk_acceptance_by (Some value) a replica t e stands comes w =
      let heard : SlotAttempt = record a { attempt = with_acceptance replica a.attempt } in
      let after : Turn SequencerState = put_own (with_attempt (Some heard) (own_of t)) t in
      let kept : W after = s.changes t _ (hears a replica value stands comes e) w in
      on_test (λ (answer : AcceptedAnswer). W (acceptance_answered answer (Some value) after))
      (is_majority a.attempt.n (with_replica replica a.attempt.acceptances)) acceptance.Chosen
      (acceptance.Waiting (length (with_replica replica a.attempt.acceptances)))
      (λ most. walk_decide heard value after refl e most kept) (λ _. kept)

  walk_acceptance : (replica slot ballot : ℕ) (t : Turn SequencerState) → Accepting n event t.state slot ballot replica → W t
      → W (hear_acceptance replica slot ballot t)
  walk_acceptance replica slot ballot t comes w =
      on_attempt (λ o. W (acceptance_for o replica t)) (λ x b. Accepting n event t.state x b replica) slot ballot (own_of t).attempt comes w
      (λ a stands counts. walk_acceptance_by a.attempt.sending a replica t refl stands counts w)

  -- ---- beginning

  walk_first : (at_once : Bool) (ballot : ℕ) (value : Entry) (t : Turn SequencerState) → (ballot == 0) ≡ at_once → Begins t.state ballot value → W t
      → W (if at_once then send_value (count_known t) 0 value (put_own (begun at_once ballot value t.state) t)
      else send_all (others_of t.state) (whats.Prepare (count_known t) ballot) (store (items.Promised (count_known t) ballot) (put_own (begun at_once ballot value t.state) t)))
  walk_first true ballot value t e starts w =
      let none : ballot ≡ 0 = eqb-true ballot 0 e in
      subst (λ (b : ℕ). W (send_value (count_known t) 0 value (put_own (begun true b value t.state) t))) (sym none)
      (walk_sends s _ (whats.Accept (count_known t) 0 value) _
      (λ i to at. proposes to i _ value at refl refl (there (own_of t) (count_known t) (with_vote 0 value (acceptor_at (own_of t) (count_known t)))))
      (s.stores t _ _ (begins_at_once value (subst (λ (b : ℕ). Begins t.state b value) none starts)) w))
  walk_first false ballot value t e starts w =
      let put = there (own_of t) (count_known t) (with_promise ballot (acceptor_at (own_of t) (count_known t))) in
      walk_sends s _ (whats.Prepare (count_known t) ballot) _
      (λ i to at. prepares to i _ at refl refl refl (ap (λ (x : AcceptorState Entry). x.promised) put)) (s.stores t _ _ (begins ballot value starts e) w)

  walk_alone : (slot ballot : ℕ) (t : Turn SequencerState) → W t → W (alone slot ballot t)
  walk_alone slot ballot t w =
      on_test W ((cfg_of t).seqs == 1) (hear_acceptance 0 slot ballot (hear_promise 0 slot ballot None t)) t
      (λ e.
      let one : (cfg_of t).seqs ≡ 1 = eqb-true (cfg_of t).seqs 1 e in
      walk_acceptance 0 slot ballot (hear_promise 0 slot ballot None t)
      (acceptance_alone (ap (λ (b : Base). b.cfg.seqs) (promised_base (attempt_for slot ballot (own_of t).attempt) 0 None t) ∙ one))
      (walk_promise 0 slot ballot None t (promise_alone one) w))
      (λ _. w)

  walk_begin_with : (value : Option Entry) (t : Turn SequencerState) → has_slot t.state.base ≡ true → value_for (agreed t) (own_of t) ≡ value → W t
      → W (begin_with value t)
  walk_begin_with None t slot e w = w
  walk_begin_with (Some value) t slot e w =
      let ballot : ℕ = new_ballot (count_known t) t in
      on_test W (nat_lt ballot (2 ^ 31))
      (alone (count_known t) ballot (first_sends (count_known t) ballot value (put_own (attempt_stands (count_known t) ballot value t) t))) t
      (λ low.
      walk_alone (count_known t) ballot _
      (walk_first (ballot == 0) ballot value t refl (record { slot = slot; value_is = e; ballot_is = refl; low = low }) w))
      (λ _. w)

  walk_begin : (t : Turn SequencerState) → W t → W (begin t)
  walk_begin t w =
      on_test W (has_slot t.state.base) (begin_with (value_for (agreed t) (own_of t)) t) t
      (λ slot. walk_begin_with (value_for (agreed t) (own_of t)) t slot refl w) (λ _. w)

  walk_begin_if_free : (t : Turn SequencerState) → W t → W (begin_if_free t)
  walk_begin_if_free t w = on_test W (is_none (own_of t).attempt) (begin t) t (λ _. walk_begin t w) (λ _. w)

  -- ---- Command, Tick

  pub walk_wish : (command : Command) (t : Turn SequencerState) → event ≡ events.Command command → W t → W (put_own (with_wish command (own_of t)) t)
  walk_wish command t e w =
      on_test (λ (own : SequencerState). W (put_own own t)) (nat_lt (length (own_of t).wishes) 16)
      (record (own_of t) { wishes = (own_of t).wishes ++ command ∷ [] }) (own_of t)
      (λ room. s.changes t _ (wishes command e room) w) (λ _. w)

  walk_fill : (t : Turn SequencerState) → event ≡ events.Tick → W t → W (fill_lagging t)
  walk_fill t e w =
      let Same : Turn SequencerState → Type 0 = λ u. W u × (u.state ≡ t.state) in
      on_test W (has_uncovered (agreed t) (own_of t)) (fold fill t (lagging_rows (agreed t) (own_of t))) t
      (λ need. (on_fold Same fill (lagging_rows (agreed t) (own_of t)) t
      (λ u i row at kept. (
        s.says u (nodes.Shard row.shard sides.Primary) (whats.Fill row.len)
            (subst (λ (x : Node SequencerState). Says n event x (nodes.Shard row.shard sides.Primary) (whats.Fill row.len)) (sym kept.1) (fills i row e need at)) kept.0,
        kept.1,
      ))
      (w, refl)).0)
      (λ _. w)

  pub walk_idle : (t : Turn SequencerState) → event ≡ events.Tick → W t → W (idle_longer (tick t))
  walk_idle t e w = s.changes (tick t) _ (idles e) (walk_tick s t e w)

  walk_on_tick : (t : Turn SequencerState) → event ≡ events.Tick → W t → W (on_tick t)
  walk_on_tick t e w =
      let u : Turn SequencerState = idle_longer (tick t) in
      let waited : W u = walk_idle t e w in
      on_test W (is_none (own_of u).attempt && nat_le (patience u) (own_of u).idle) (begin (fill_lagging u)) _
      (λ _. walk_begin (fill_lagging u) (walk_fill u e waited))
      (λ _. on_test W (is_some (own_of u).attempt && nat_le (patience u + 3) (own_of u).idle) (begin u) u (λ _. walk_begin u waited) (λ _. waited))

  -- ---- the table

  walk_hear : (from : NodeId) (what : What) (t : Turn SequencerState) → Comes n event from what → W t → W (hear from what t)
  walk_hear from (whats.Decided slot count entry) t comes w = walk_decided_by s on_learned from slot count entry t (λ u is_told. s.learns u entry (told is_told)) comes w
  walk_hear from (whats.Learn slot) t comes w =
      on_test W (nat_lt slot (count_known t)) (tell from slot t) t (λ known. walk_tell from slot t (by_learn comes) known w) (λ _. w)
  walk_hear from (whats.Report len) t comes w = s.changes t _ (reports from len comes) w
  walk_hear from (whats.Prepare slot ballot) t comes w =
      on_test W (nat_lt slot (count_known t)) (tell from slot t) _ (λ known. walk_tell from slot t (by_prepare ballot comes) known w)
      (λ unknown. walk_prepare (greater_promise (acceptor_at (own_of t) slot).promised ballot) from slot ballot t refl comes unknown w)
  walk_hear from (whats.Accept slot ballot entry) t comes w =
      on_test W (nat_lt slot (count_known t)) (tell from slot t) _ (λ known. walk_tell from slot t (by_accept ballot entry comes) known w)
      (λ unknown. walk_accept (greater_promise (acceptor_at (own_of t) slot).promised ballot) from slot ballot entry t refl comes unknown w)
  walk_hear from (whats.Promise slot ballot report) t comes w = walk_promise (number_of from) slot ballot report t (promise_comes from report comes) w
  walk_hear from (whats.Accepted slot ballot) t comes w = walk_acceptance (number_of from) slot ballot t (acceptance_comes from comes) w
  walk_hear from _ t comes w = w

  walk_event : (e : Event) → event ≡ e → W (handle e (started n))
  walk_event (events.Deliver m) e = walk_heed s hear m e (λ comes. walk_hear m.from m.what (started n) comes s.starts)
  walk_event (events.Command command) e = walk_begin_if_free _ (walk_wish command (started n) e s.starts)
  walk_event events.Tick e = walk_on_tick (started n) e s.starts
  walk_event events.Restart e = s.starts
  walk_event (events.Submit by body) e = s.starts

  -- what an event does by itself
  pub walk_handle : W (handle event (started n))
  walk_handle = walk_event event refl

  walk_finish : (e : Event) → event ≡ e → W (finish e (handle e (started n)))
  walk_finish e same =
      let handled = walk_event e same in
      on_test W ((number_of (me_of (handle e (started n))) == 0) && ends_with_beginning e) _ (handle e (started n))
      (λ _. walk_begin_if_free (handle e (started n)) handled) (λ _. handled)

  walk_step : (e : Event) → event ≡ e → W (sequencer_step n e)
  walk_step events.Restart e = s.restarts e
  walk_step (events.Deliver message) e = walk_finish (events.Deliver message) e
  walk_step (events.Command command) e = walk_finish (events.Command command) e
  walk_step events.Tick e = walk_finish events.Tick e
  walk_step (events.Submit by body) e = walk_finish (events.Submit by body) e

  -- and the whole step
  pub sequencer_walk : W (sequencer_step n event)
  sequencer_walk = walk_step event refl
