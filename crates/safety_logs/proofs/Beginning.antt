-- A sequencer's step begins at most once, and last: what it votes for is for one slot, the next as it begins, or what it is asked to accept.
use Rattle.std.proofs.Common.{◌≡◌, ◌∙◌, ◌⊎◌, ℕ, ◌+◌, ◌≤◌, ◌^◌, ◌==◌, ◌&&◌, false, nat_lt, is_none, is_some, [], ◌∷◌, length, Option, Some, None, inl, inr, refl, sym, ap, subst, arith}
use Rattle.std.specs.Prelude.{nat_le, if◌then◌else◌}
use Rattle.std.specs.List.{AllByRecursion, fold, slice_get}
use Rattle.std.proofs.lemmas.Bool.{false≢true, and_parts, eqb-true}
use Rattle.std.proofs.lemmas.List.{length-append}
use Rattle.majority.specs.Acceptors.{prepare_answer, accept_answer}
use Rattle.majority.specs.Proposers.{promise_answer, accepted_answer, attempt_after_accepted}
use Rattle.majority.specs.declared.answers.PrepareAnswer.{PrepareAnswer}
use Rattle.majority.specs.declared.answers.PrepareAnswer.TheVariants as prepare
use Rattle.majority.specs.declared.answers.AcceptAnswer.{AcceptAnswer}
use Rattle.majority.specs.declared.answers.AcceptAnswer.TheVariants as accept
use Rattle.majority.specs.declared.answers.PromiseAnswer.{PromiseAnswer}
use Rattle.majority.specs.declared.answers.PromiseAnswer.TheVariants as promise
use Rattle.majority.specs.declared.answers.AcceptedAnswer.{AcceptedAnswer}
use Rattle.majority.specs.declared.answers.AcceptedAnswer.TheVariants as acceptance
use Rattle.msg_wire.specs.Heeded.{is_heeded}
use Rattle.msg_wire.specs.Nodes.{number_of}
use Rattle.node_rules.specs.Names.{NodeId, Entry, Item, Message, What, Event}
use Rattle.node_rules.specs.Names.items
use Rattle.node_rules.specs.Names.whats
use Rattle.node_rules.specs.Names.events
use Rattle.node_rules.specs.Nodes.{Node, has_slot, asked_by}
use Rattle.node_rules.specs.Turns.{Turn, started, cfg_of, me_of, own_of, known_of, count_known, agreed, put_own, send}
use Rattle.node_rules.specs.Rules.{heed, learn, learn_next, with_seen, ask, decided, tick}
use Rattle.node_rules.proofs.Lists.{on_test, on_option, on_fold, all_push}
use Rattle.node_rules.proofs.Places.{Comes}
use Rattle.seq_node.specs.States.{SlotAttempt, SequencerState, acceptor_at, with_attempt, attempt_for}
use Rattle.seq_node.specs.Values.{lagging_rows, has_uncovered, value_for}
use Rattle.seq_node.specs.Learning.{on_learned}
use Rattle.seq_node.specs.Attempts.{send_value, promise_counted, promise_for, hear_promise, acceptance_answered, acceptance_for, hear_acceptance, attempt_stands, first_sends, alone, new_ballot, begin_with, begin}
use Rattle.seq_node.specs.Rules.{tell, prepare_answered, accept_answered, hear_report, with_wish, begin_if_free, fill, fill_lagging, idle_longer, patience, on_tick}
use Rattle.seq_node.specs.Steps.{hear, ends_with_beginning, finish, sequencer_step}

-- ---- the attempt that a message goes to

for_it : (slot ballot : ℕ) (o : Option SlotAttempt) (a : SlotAttempt) → attempt_for slot ballot o ≡ Some a → (a.slot ≡ slot) × (o ≡ Some a)
for_it slot ballot None a e = absurd (cc)
for_it slot ballot (Some b) a e =
    on_test (λ (o : Option SlotAttempt). o ≡ Some a → (a.slot ≡ slot) × (Some b ≡ Some a)) ((b.slot == slot) && (b.attempt.ballot == ballot)) (Some b) None
    (λ both same.
    let one : b ≡ a = cc in
    (ap (λ (x : SlotAttempt). x.slot) (sym one) ∙ eqb-true b.slot slot (and_parts (b.slot == slot) (b.attempt.ballot == ballot) both).0, same))
    (λ _ none. absurd (cc)) e

module _ (n : Node SequencerState) (event : Event) where
  abbrev first : ℕ
  first = length n.base.known

  -- it is asked to accept this
  abbrev pub IsAsked : ℕ → ℕ → Entry → Type 0
  IsAsked slot ballot entry = (from : NodeId) × Comes n event from (whats.Accept slot ballot entry)

  -- a vote for this slot, or one that is asked for as it is the next
  abbrev pub IsVoteAt : ℕ → Item → Type 0
  IsVoteAt next (items.Accepted slot ballot entry) = (slot ≡ next) ⊎ ((next ≡ first) × IsAsked slot ballot entry)
  IsVoteAt next _ = Unit {0}

  abbrev VotesAt : ℕ → Turn SequencerState → Type 0
  VotesAt next t = AllByRecursion (IsVoteAt next) t.stable

  -- it hasn't voted
  abbrev Quiet : Turn SequencerState → Type 0
  Quiet t = (first ≤ count_known t) × ((next : ℕ) → VotesAt next t)

  -- it may begin
  abbrev Ready : Turn SequencerState → Type 0
  Ready t = (first ≤ count_known t) × VotesAt (count_known t) t

  -- it has begun, or doesn't
  abbrev pub Begun : Turn SequencerState → Type 0
  Begun t = (next : ℕ) × (first ≤ next) × AllByRecursion (IsVoteAt next) t.stable

  ready : (t : Turn SequencerState) → Quiet t → Ready t
  ready t w = (w.0, w.1 (count_known t))

  ends : (t : Turn SequencerState) → Ready t → Begun t
  ends t w = (count_known t, w.0, w.1)

  -- ---- promises and acceptances, at any slot

  module _ (next : ℕ) where
    counted_votes : (answer : PromiseAnswer Entry) (replica : ℕ) (report : Option (ℕ × Entry)) (a : SlotAttempt) (t : Turn SequencerState) → a.slot ≡ next
        → VotesAt next t → VotesAt next (promise_counted answer replica report a t)
    counted_votes (promise.Send value) replica report a t here w =
        all_push (IsVoteAt next) t.stable (items.Accepted a.slot a.attempt.ballot value) w (inl here)
    counted_votes promise.Late replica report a t here w = w
    counted_votes (promise.Lower greater) replica report a t here w = w
    counted_votes (promise.Waiting have) replica report a t here w = w

    promise_votes : (o : Option SlotAttempt) (replica : ℕ) (report : Option (ℕ × Entry)) (t : Turn SequencerState)
        → ((a : SlotAttempt) → o ≡ Some a → a.slot ≡ next) → VotesAt next t → VotesAt next (promise_for o replica report t)
    promise_votes None replica report t here w = w
    promise_votes (Some a) replica report t here w =
        counted_votes (promise_answer replica report (acceptor_at (own_of t) a.slot) a.attempt) replica report a t (here a refl) w

    answered_votes : (answer : AcceptedAnswer) (sent : Option Entry) (t : Turn SequencerState) → VotesAt next t
        → VotesAt next (acceptance_answered answer sent t)
    answered_votes acceptance.Chosen (Some value) t w = all_push (IsVoteAt next) t.stable (items.Known value) w tt
    answered_votes acceptance.Chosen None t w = w
    answered_votes (acceptance.Waiting have) sent t w = w
    answered_votes acceptance.Early sent t w = w

    acceptance_votes : (o : Option SlotAttempt) (replica : ℕ) (t : Turn SequencerState) → VotesAt next t → VotesAt next (acceptance_for o replica t)
    acceptance_votes None replica t w = w
    acceptance_votes (Some a) replica t w =
        answered_votes (accepted_answer replica a.attempt) a.attempt.sending
        (put_own (with_attempt (Some (record a { attempt = attempt_after_accepted replica a.attempt })) (own_of t)) t) w

    -- ---- beginning at this slot

    alone_votes : (ballot : ℕ) (t : Turn SequencerState) → VotesAt next t → VotesAt next (alone next ballot t)
    alone_votes ballot t w =
        on_test (VotesAt next) ((cfg_of t).seqs == 1) (hear_acceptance 0 next ballot (hear_promise 0 next ballot None t)) t
        (λ _.
        let u : Turn SequencerState = hear_promise 0 next ballot None t in
        acceptance_votes (attempt_for next ballot (own_of u).attempt) 0 u
        (promise_votes (attempt_for next ballot (own_of t).attempt) 0 None t (λ a e. (for_it next ballot (own_of t).attempt a e).0) w))
        (λ _. w)

    first_votes : (ballot : ℕ) (value : Entry) (t : Turn SequencerState) → VotesAt next t → VotesAt next (first_sends next ballot value t)
    first_votes ballot value t w =
        on_test (VotesAt next) (ballot == 0) (send_value next 0 value t) _ (λ _. all_push (IsVoteAt next) t.stable (items.Accepted next 0 value) w (inl refl))
        (λ _. all_push (IsVoteAt next) t.stable (items.Promised next ballot) w tt)

  begun_with : (value : Option Entry) (t : Turn SequencerState) → Ready t → Begun (begin_with value t)
  begun_with None t w = ends t w
  begun_with (Some value) t w =
      let next : ℕ = count_known t in
      let ballot : ℕ = new_ballot next t in
      let u : Turn SequencerState = put_own (attempt_stands next ballot value t) t in
      on_test Begun (nat_lt ballot (2 ^ 31)) (alone next ballot (first_sends next ballot value u)) t
      (λ _. (next, w.0, alone_votes next ballot (first_sends next ballot value u) (first_votes next ballot value u w.1))) (λ _. ends t w)

  begun : (t : Turn SequencerState) → Ready t → Begun (begin t)
  begun t w =
      on_test Begun (has_slot t.state.base) (begin_with (value_for (agreed t) (own_of t)) t) t (λ _. begun_with (value_for (agreed t) (own_of t)) t w)
      (λ _. ends t w)

  begun_if_free : (t : Turn SequencerState) → Ready t → Begun (begin_if_free t)
  begun_if_free t w = on_test Begun (is_none (own_of t).attempt) (begin t) t (λ _. begun t w) (λ _. ends t w)

  -- ---- what comes before it

  quiet_ask : (to : NodeId) (t : Turn SequencerState) → Quiet t → Quiet (ask to t)
  quiet_ask to t w = on_test Quiet (has_slot t.state.base) _ t (λ _. w) (λ _. w)

  quiet_learned : (entry : Entry) (t : Turn SequencerState) → Quiet t → Quiet (learn on_learned entry t)
  quiet_learned entry t w =
      (omega (arith, w.0, length-append (known_of t) (entry ∷ [])), λ next. all_push (IsVoteAt next) t.stable (items.Known entry) (w.1 next) tt)

  quiet_decided : (from : NodeId) (slot count : ℕ) (entry : Entry) (t : Turn SequencerState) → Quiet t → Quiet (decided on_learned from slot count entry t)
  quiet_decided from slot count entry t w =
      let u : Turn SequencerState = with_seen count t in
      let next : Turn SequencerState = learn_next on_learned slot entry u in
      let told : Quiet next = on_test Quiet (slot == count_known u) (learn on_learned entry u) u (λ _. quiet_learned entry u w) (λ _. w) in
      on_test Quiet (nat_lt (count_known next) next.state.base.seen) (ask from next) next (λ _. quiet_ask from next told) (λ _. told)

  quiet_tell : (to : NodeId) (slot : ℕ) (t : Turn SequencerState) → Quiet t → Quiet (tell to slot t)
  quiet_tell to slot t w =
      on_option Quiet (λ entry. send to (whats.Decided slot (count_known t) entry) t) (slice_get (known_of t) slot) t (λ entry at. w) w

  quiet_prepared : (answer : PrepareAnswer Entry) (from : NodeId) (slot ballot : ℕ) (t : Turn SequencerState) → Quiet t
      → Quiet (prepare_answered answer from slot ballot t)
  quiet_prepared (prepare.Lower greater) from slot ballot t w = w
  quiet_prepared (prepare.Promised report) from slot ballot t w = (w.0, λ next. all_push (IsVoteAt next) t.stable (items.Promised slot ballot) (w.1 next) tt)

  quiet_answered : (answer : AcceptedAnswer) (sent : Option Entry) (t : Turn SequencerState) → Quiet t → Quiet (acceptance_answered answer sent t)
  quiet_answered acceptance.Chosen (Some value) t w = quiet_learned value t w
  quiet_answered acceptance.Chosen None t w = w
  quiet_answered (acceptance.Waiting have) sent t w = w
  quiet_answered acceptance.Early sent t w = w

  quiet_acceptance : (o : Option SlotAttempt) (replica : ℕ) (t : Turn SequencerState) → Quiet t → Quiet (acceptance_for o replica t)
  quiet_acceptance None replica t w = w
  quiet_acceptance (Some a) replica t w =
      quiet_answered (accepted_answer replica a.attempt) a.attempt.sending
      (put_own (with_attempt (Some (record a { attempt = attempt_after_accepted replica a.attempt })) (own_of t)) t) w

  start : Quiet (started n)
  start = (omega arith, λ next. tt)

  -- ---- what is heard

  accepted_ready : (answer : AcceptAnswer) (from : NodeId) (slot ballot : ℕ) (entry : Entry) → Comes n event from (whats.Accept slot ballot entry)
      → Ready (accept_answered answer from slot ballot entry (started n))
  accepted_ready (accept.Lower greater) from slot ballot entry comes = ready (started n) start
  accepted_ready accept.Taken from slot ballot entry comes = (omega arith, (inr (refl, (from, comes)), tt))

  same_known : (answer : PromiseAnswer Entry) (replica : ℕ) (report : Option (ℕ × Entry)) (a : SlotAttempt) (t : Turn SequencerState)
      → known_of (promise_counted answer replica report a t) ≡ known_of t
  same_known (promise.Send value) replica report a t = refl
  same_known promise.Late replica report a t = refl
  same_known (promise.Lower greater) replica report a t = refl
  same_known (promise.Waiting have) replica report a t = refl

  promise_known : (o : Option SlotAttempt) (replica : ℕ) (report : Option (ℕ × Entry)) (t : Turn SequencerState)
      → known_of (promise_for o replica report t) ≡ known_of t
  promise_known None replica report t = refl
  promise_known (Some a) replica report t = same_known (promise_answer replica report (acceptor_at (own_of t) a.slot) a.attempt) replica report a t

  module _ (next_is : (a : SlotAttempt) → n.own.attempt ≡ Some a → a.slot ≡ first) where
    promise_ready : (replica slot ballot : ℕ) (report : Option (ℕ × Entry)) → Ready (hear_promise replica slot ballot report (started n))
    promise_ready replica slot ballot report =
        let o : Option SlotAttempt = attempt_for slot ballot n.own.attempt in
        let votes = promise_votes first o replica report (started n) (λ a e. next_is a (for_it slot ballot n.own.attempt a e).1) tt in
        let same : first ≡ count_known (promise_for o replica report (started n)) = ap length (sym (promise_known o replica report (started n))) in
        (omega (arith, same), subst (λ (next : ℕ). VotesAt next (promise_for o replica report (started n))) same votes)

    -- a slot that is known is told, or else this is left
    heard_known : (from : NodeId) (slot : ℕ) (t : Turn SequencerState) → Ready t
        → Ready (if nat_lt slot first then tell from slot (started n) else t)
    heard_known from slot t w =
        on_test Ready (nat_lt slot first) (tell from slot (started n)) t
        (λ _. ready (tell from slot (started n)) (quiet_tell from slot (started n) start)) (λ _. w)

    heard : (from : NodeId) (what : What) → Comes n event from what → Ready (hear from what (started n))
    heard from (whats.Decided slot count entry) comes =
        ready (decided on_learned from slot count entry (started n)) (quiet_decided from slot count entry (started n) start)
    heard from (whats.Learn slot) comes = heard_known from slot (started n) (ready (started n) start)
    heard from (whats.Report len) comes = ready (hear_report from len (started n)) start
    heard from (whats.Prepare slot ballot) comes =
        let t : Turn SequencerState = prepare_answered (prepare_answer ballot (acceptor_at n.own slot)) from slot ballot (started n) in
        heard_known from slot t (ready t (quiet_prepared (prepare_answer ballot (acceptor_at n.own slot)) from slot ballot (started n) start))
    heard from (whats.Accept slot ballot entry) comes =
        heard_known from slot (accept_answered (accept_answer ballot (acceptor_at n.own slot)) from slot ballot entry (started n))
        (accepted_ready (accept_answer ballot (acceptor_at n.own slot)) from slot ballot entry comes)
    heard from (whats.Promise slot ballot report) comes = promise_ready (number_of from) slot ballot report
    heard from (whats.Accepted slot ballot) comes =
        let o : Option SlotAttempt = attempt_for slot ballot n.own.attempt in
        ready (acceptance_for o (number_of from) (started n)) (quiet_acceptance o (number_of from) (started n) start)
    heard from _ comes = ready (started n) start

    heeded : (m : Message) → event ≡ events.Deliver m → Ready (heed hear m (started n))
    heeded m same =
        on_test Ready (is_heeded n.base.cfg n.base.me m) (hear m.from m.what (started n)) (started n)
        (λ heeds. heard m.from m.what (record { message = m; same = same; by = refl; says = refl; heeded = heeds })) (λ _. ready (started n) start)

    -- ---- a tick

    quiet_tick : Quiet (idle_longer (tick (started n)))
    quiet_tick = on_option Quiet (λ to. ask to (started n)) (asked_by n.base) (started n) (λ to whom. quiet_ask to (started n) start) start

    quiet_fill : (t : Turn SequencerState) → Quiet t → Quiet (fill_lagging t)
    quiet_fill t w =
        on_test Quiet (has_uncovered (agreed t) (own_of t)) (fold fill t (lagging_rows (agreed t) (own_of t))) t
        (λ _. on_fold Quiet fill (lagging_rows (agreed t) (own_of t)) t (λ u i row at is. is) w) (λ _. w)

    ticked : Begun (on_tick (started n))
    ticked =
        let u : Turn SequencerState = idle_longer (tick (started n)) in
        on_test Begun (is_none (own_of u).attempt && nat_le (patience u) (own_of u).idle) (begin (fill_lagging u)) _
        (λ _. begun (fill_lagging u) (ready (fill_lagging u) (quiet_fill u quiet_tick)))
        (λ _.
        on_test Begun (is_some (own_of u).attempt && nat_le (patience u + 3) (own_of u).idle) (begin u) u (λ _. begun u (ready u quiet_tick))
        (λ _. ends u (ready u quiet_tick)))

    -- ---- the table

    -- by its own rule, so that the end of the step doesn't
    has_begun : (by : Event) (t : Turn SequencerState) → ends_with_beginning by ≡ false → Begun t → Begun (finish by t)
    has_begun by t none w =
        on_test Begun ((number_of (me_of t) == 0) && ends_with_beginning by) (begin_if_free t) t
        (λ both. absurd (false≢true (sym none ∙ (and_parts (number_of (me_of t) == 0) (ends_with_beginning by) both).1))) (λ _. w)

    begins_last : (by : Event) (t : Turn SequencerState) → Ready t → Begun (finish by t)
    begins_last by t w =
        on_test Begun ((number_of (me_of t) == 0) && ends_with_beginning by) (begin_if_free t) t (λ _. begun_if_free t w) (λ _. ends t w)

    step_of_event : (by : Event) → event ≡ by → Begun (sequencer_step n by)
    step_of_event (events.Deliver m) same = begins_last (events.Deliver m) (heed hear m (started n)) (heeded m same)
    step_of_event (events.Command command) same =
        let t : Turn SequencerState = put_own (with_wish command n.own) (started n) in
        has_begun (events.Command command) (begin_if_free t) refl (begun_if_free t (ready t start))
    step_of_event events.Tick same = has_begun events.Tick (on_tick (started n)) refl ticked
    step_of_event events.Restart same = (first, omega arith, tt)
    step_of_event (events.Submit by body) same = begins_last (events.Submit by body) (started n) (ready (started n) start)

    pub begins_once : Begun (sequencer_step n event)
    begins_once = step_of_event event refl
