-- Where a sequencer stores a promise or a vote, the machine of each slot follows: at the item's slot by a step of its own.
use Rattle.std.proofs.Common.{◌≡◌, ◌∙◌, ℕ, ◌<◌, ◌==◌, Bool, true, false, List, [], ◌∷◌, ◌++◌, length, Contains, Option, Some, None, refl, sym, ap, subst, arith, if◌then◌else◌}
use Rattle.std.proofs.lemmas.Bool.{eqb-true, eqb-false}
use Rattle.majority.specs.Ballots.{greater_promise, is_majority}
use Rattle.majority.specs.Acceptors.{AcceptorState, with_promise, with_vote}
use Rattle.majority.specs.Proposers.{Attempt, ballot_for, with_heard, with_sending, value_to_send}
use Rattle.majority.specs.Slot.{Message as SlotMessage, Prepare, Promise, Accept, Accepted, SlotState}
use Rattle.majority.specs.Agreement.{IsSound}
use Rattle.majority.proofs.Lists.{Contains_here, Contains_later}
use Rattle.msg_wire.specs.Nodes.{number_of}
use Rattle.node_rules.specs.Nodes.{Node, agreed_by}
use Rattle.node_rules.specs.Names.{Event}
use Rattle.node_rules.proofs.Places.{Comes}
use Rattle.seq_node.specs.States.{SlotAttempt, SequencerState, acceptor_at, standing_ballot}
use Rattle.seq_node.specs.Values.{wished_value}
use Rattle.seq_node.proofs.Places.{Begins, Promising, promise_comes, promise_alone, Sends, Stores, promised, accepted, begins_at_once, begins, sends, sending, begun}
use Rattle.runs.specs.Names.{NodeId, Config, Entry, Item, What}
use Rattle.runs.specs.Names.items
use Rattle.runs.specs.Names.whats
use Rattle.safety_frame.specs.StableItems.{after_item}
use Rattle.safety_frame.proofs.Names.{IsNamed}
use Rattle.safety_frame.proofs.Acceptors.{acceptors_by_items}
use Rattle.safety_agreement.proofs.Mirrors.{attempt_at, at_slot, off_slot, IsSaid, Mirrors, offered_still}
use Rattle.safety_agreement.proofs.Machine.{promise_sound, accept_sound, fresh_attempt, begin_sound, send_sound}
use Rattle.safety_agreement.proofs.Changing.{Follows, nothing_follows, change_follows, drop_follows, vote_follows, with_item}
use Rattle.safety_agreement.proofs.Alone.{alone_sound}

module _ (cfg : Config) (slot : ℕ) (me : NodeId) (within : number_of me < cfg.seqs) (n : Node SequencerState) (event : Event) (s : Node SequencerState)
    (state : SlotState Entry) (stored : List Item) (sound : IsSound cfg.seqs state) (was : Mirrors slot (number_of me) state s.own stored)
    (named : IsNamed cfg me s) (told : (from : NodeId) (what : What) → Comes n event from what → IsSaid slot state.sent from what) where
  abbrev i : ℕ
  i = number_of me

  abbrev After : SequencerState → Item → Type 0
  After own item = Follows cfg.seqs slot i state own (stored ++ item ∷ [])

  -- that of the item's slot
  held : (at : ℕ) → at ≡ slot → state.acceptors i ≡ acceptor_at s.own at
  held at here = was.acceptor ∙ ap (acceptor_at s.own) (sym here)

  free_there : (at ballot : ℕ) → at ≡ slot → greater_promise (acceptor_at s.own at).promised ballot ≡ None
      → greater_promise (state.acceptors i).promised ballot ≡ None
  free_there at ballot here free = subst (λ (a : AcceptorState Entry). greater_promise a.promised ballot ≡ None) (sym (held at here)) free

  -- what is put at the slot is what the item makes
  promise_put : (own : SequencerState) (at ballot : ℕ) → (at == slot) ≡ true
      → acceptor_at own slot ≡ (if at == slot then with_promise ballot (acceptor_at s.own slot) else acceptor_at s.own slot)
      → with_promise ballot (state.acceptors i) ≡ acceptor_at own slot
  promise_put own at ballot test made_is =
      ap (with_promise ballot) was.acceptor
      ∙ (sym (ap (λ (b : Bool). if b then with_promise ballot (acceptor_at s.own slot) else acceptor_at s.own slot) test) ∙ sym made_is)

  vote_put : (own : SequencerState) (at ballot : ℕ) (entry : Entry) → (at == slot) ≡ true
      → acceptor_at own slot ≡ (if at == slot then with_vote ballot entry (acceptor_at s.own slot) else acceptor_at s.own slot)
      → with_vote ballot entry (state.acceptors i) ≡ acceptor_at own slot
  vote_put own at ballot entry test made_is =
      ap (with_vote ballot entry) was.acceptor
      ∙ (sym (ap (λ (b : Bool). if b then with_vote ballot entry (acceptor_at s.own slot) else acceptor_at s.own slot) test) ∙ sym made_is)

  left_as_it_was : (own : SequencerState) (at : ℕ) (other : AcceptorState Entry) → (at == slot) ≡ false
      → acceptor_at own slot ≡ (if at == slot then other else acceptor_at s.own slot) → acceptor_at own slot ≡ acceptor_at s.own slot
  left_as_it_was own at other test made_is = made_is ∙ ap (λ (b : Bool). if b then other else acceptor_at s.own slot) test

  elsewhere : (at b : ℕ) (v : Entry) → (at == slot) ≡ false → (ballot : ℕ) (entry : Entry) → items.Accepted at b v ≡ items.Accepted slot ballot entry → ⊥
  elsewhere at b v test ballot entry same = let here : at ≡ slot = cc in eqb-false at slot test here

  later : (m : SlotMessage Entry) → (x : SlotMessage Entry) → Contains state.sent x → Contains (m ∷ state.sent) x
  later m x c = Contains_later m x state.sent c

  -- a sequencer that is alone is the first
  first_alone : s.base.cfg.seqs ≡ 1 → i ≡ 0
  first_alone one = let few : cfg.seqs ≡ 1 = sym (ap (λ (c : Config). c.seqs) named.0) ∙ one in omega (arith, few, within)

  -- ---- a promise and a vote of another's ballot

  at_promised : (own : SequencerState) (at ballot : ℕ) (test : Bool) → (at == slot) ≡ test → own.attempt ≡ s.own.attempt
      → acceptor_at own slot ≡ after_item slot (acceptor_at s.own slot) (items.Promised at ballot)
      → greater_promise (acceptor_at s.own at).promised ballot ≡ None → After own (items.Promised at ballot)
  at_promised own at ballot true test same made_is free =
      let message : SlotMessage Entry = Promise i ballot (state.acceptors i).accepted in
      with_item cfg.seqs slot i state own stored (items.Promised at ballot) (λ b v e. cc)
      (change_follows cfg.seqs slot i state s.own stored within sound was (with_promise ballot (state.acceptors i)) (state.attempts i)
      (message ∷ state.sent) own
      (promise_sound cfg.seqs i state within sound ballot (free_there at ballot (eqb-true at slot test) free)) (later message)
      (promise_put own at ballot test made_is) (was.attempt ∙ sym (ap (attempt_at slot) same))
      (offered_still state.sent (message ∷ state.sent) (later message) (state.attempts i) was.offered))
  at_promised own at ballot false test same made_is free =
      with_item cfg.seqs slot i state own stored (items.Promised at ballot) (λ b v e. cc)
      (nothing_follows cfg.seqs slot i state s.own stored within sound was own
      (left_as_it_was own at (with_promise ballot (acceptor_at s.own slot)) test made_is) (ap (attempt_at slot) same))

  at_accepted : (own : SequencerState) (at ballot : ℕ) (entry : Entry) (test : Bool) → (at == slot) ≡ test → own.attempt ≡ s.own.attempt
      → acceptor_at own slot ≡ after_item slot (acceptor_at s.own slot) (items.Accepted at ballot entry)
      → greater_promise (acceptor_at s.own at).promised ballot ≡ None → (at ≡ slot → Contains state.sent (Accept ballot entry))
      → After own (items.Accepted at ballot entry)
  at_accepted own at ballot entry true test same made_is free asked =
      let here = eqb-true at slot test in
      subst (λ (x : ℕ). After own (items.Accepted x ballot entry)) (sym here)
      (vote_follows cfg.seqs slot i state s.own stored within sound was ballot entry (with_vote ballot entry (state.acceptors i)) (state.attempts i)
      (Accepted i ballot ∷ state.sent) own
      (accept_sound cfg.seqs i state within sound ballot entry (free_there at ballot here free) (asked here)) (later (Accepted i ballot))
      (vote_put own at ballot entry test made_is) (was.attempt ∙ sym (ap (attempt_at slot) same))
      (offered_still state.sent (Accepted i ballot ∷ state.sent) (later (Accepted i ballot)) (state.attempts i) was.offered))
  at_accepted own at ballot entry false test same made_is free asked =
      with_item cfg.seqs slot i state own stored (items.Accepted at ballot entry) (elsewhere at ballot entry test)
      (nothing_follows cfg.seqs slot i state s.own stored within sound was own
      (left_as_it_was own at (with_vote ballot entry (acceptor_at s.own slot)) test made_is) (ap (attempt_at slot) same))

  -- ---- a begin

  abbrev begun_attempt : Bool → ℕ → Entry → SlotAttempt
  begun_attempt at_once ballot value = record {
    slot = length s.base.known;
    attempt = fresh_attempt s.base.cfg.seqs (number_of s.base.me) at_once ballot value;
    wished = wished_value (agreed_by s.base) s.own;
  }

  abbrev machine_attempt : Bool → ℕ → Entry → Attempt Entry
  machine_attempt at_once ballot value = fresh_attempt cfg.seqs i at_once ballot value

  -- the ballot is that of the machine's start
  ballot_is : (ballot : ℕ) (value : Entry) → Begins s ballot value → length s.base.known ≡ slot
      → ballot ≡ ballot_for i cfg.seqs (standing_ballot (length s.base.known) s.own.attempt) (state.acceptors i)
  ballot_is ballot value why here =
      let at = length s.base.known in
      let highest = standing_ballot at s.own.attempt in
      why.ballot_is
      ∙ (ap (λ (x : NodeId). ballot_for (number_of x) s.base.cfg.seqs highest (acceptor_at s.own at)) named.1
      ∙ (ap (λ (c : Config). ballot_for i c.seqs highest (acceptor_at s.own at)) named.0
      ∙ ap (ballot_for i cfg.seqs highest) (sym (held at here))))

  -- and so is the attempt
  attempt_is : (at_once : Bool) (ballot : ℕ) (value : Entry) → length s.base.known ≡ slot
      → Some (machine_attempt at_once ballot value) ≡ attempt_at slot (begun at_once ballot value s).attempt
  attempt_is at_once ballot value here =
      let Made : NodeId → Config → Option (Attempt Entry) = λ x c. Some (record {
        replica = number_of x;
        n = c.seqs;
        ballot = ballot;
        wish = value;
        promises = number_of x ∷ [];
        reported = None;
        sending = if at_once then Some value else None;
        acceptances = if at_once then number_of x ∷ [] else [];
      }) in
      sym (ap (λ (x : NodeId). Made x s.base.cfg) named.1 ∙ ap (λ (c : Config). Made me c) named.0) ∙ sym (at_slot slot
      (begun_attempt at_once ballot value) here)

  at_begun : (ballot : ℕ) (value : Entry) (test : Bool) → (length s.base.known == slot) ≡ test → Begins s ballot value → (ballot == 0) ≡ false
      → acceptor_at (begun false ballot value s) slot ≡ after_item slot (acceptor_at s.own slot) (items.Promised (length s.base.known) ballot)
      → After (begun false ballot value s) (items.Promised (length s.base.known) ballot)
  at_begun ballot value true test why above made_is =
      let here = eqb-true (length s.base.known) slot test in
      with_item cfg.seqs slot i state (begun false ballot value s) stored (items.Promised (length s.base.known) ballot) (λ b v e. cc)
      (change_follows cfg.seqs slot i state s.own stored within sound was (with_promise ballot (state.acceptors i))
      (Some (machine_attempt false ballot value)) (Prepare ballot ∷ state.sent) (begun false ballot value s)
      (begin_sound cfg.seqs i state within sound false ballot (standing_ballot (length s.base.known) s.own.attempt) value above
      (ballot_is ballot value why here))
      (later (Prepare ballot))
      (promise_put (begun false ballot value s) (length s.base.known) ballot test made_is) (attempt_is false ballot value here)
      (Contains_here (Prepare ballot) state.sent))
  at_begun ballot value false test why above made_is =
      with_item cfg.seqs slot i state (begun false ballot value s) stored (items.Promised (length s.base.known) ballot) (λ b v e. cc)
      (drop_follows cfg.seqs slot i state s.own stored within sound was (begun false ballot value s)
      (left_as_it_was (begun false ballot value s) (length s.base.known) (with_promise ballot (acceptor_at s.own slot)) test made_is)
      (off_slot slot (begun_attempt false ballot value) test))

  at_begun_at_once : (value : Entry) (test : Bool) → (length s.base.known == slot) ≡ test → Begins s 0 value
      → acceptor_at (begun true 0 value s) slot ≡ after_item slot (acceptor_at s.own slot) (items.Accepted (length s.base.known) 0 value)
      → After (begun true 0 value s) (items.Accepted (length s.base.known) 0 value)
  at_begun_at_once value true test why made_is =
      let here = eqb-true (length s.base.known) slot test in
      subst (λ (x : ℕ). After (begun true 0 value s) (items.Accepted x 0 value)) (sym here)
      (vote_follows cfg.seqs slot i state s.own stored within sound was 0 value (with_vote 0 value (state.acceptors i))
      (Some (machine_attempt true 0 value)) (Accept 0 value ∷ state.sent) (begun true 0 value s)
      (begin_sound cfg.seqs i state within sound true 0 (standing_ballot (length s.base.known) s.own.attempt) value refl (ballot_is 0 value why here))
      (later (Accept 0 value))
      (vote_put (begun true 0 value s) (length s.base.known) 0 value test made_is) (attempt_is true 0 value here)
      (Contains_here (Accept 0 value) state.sent))
  at_begun_at_once value false test why made_is =
      with_item cfg.seqs slot i state (begun true 0 value s) stored (items.Accepted (length s.base.known) 0 value)
      (elsewhere (length s.base.known) 0 value test)
      (drop_follows cfg.seqs slot i state s.own stored within sound was (begun true 0 value s)
      (left_as_it_was (begun true 0 value s) (length s.base.known) (with_vote 0 value (acceptor_at s.own slot)) test made_is)
      (off_slot slot (begun_attempt true 0 value) test))

  -- ---- the value of an attempt

  abbrev sent_attempt : SlotAttempt → ℕ → Option (ℕ × Entry) → Entry → SlotAttempt
  sent_attempt a replica report value = record a { attempt = with_sending value (with_heard replica report a.attempt) }

  at_sent : (a : SlotAttempt) (replica : ℕ) (report : Option (ℕ × Entry)) (value : Entry) (test : Bool) → (a.slot == slot) ≡ test
      → s.own.attempt ≡ Some a → Promising n event s a.slot a.attempt.ballot replica report → Sends s a replica report value
      → acceptor_at (sending a replica report value s.own) slot ≡ after_item slot (acceptor_at s.own slot) (items.Accepted a.slot a.attempt.ballot value)
      → After (sending a replica report value s.own) (items.Accepted a.slot a.attempt.ballot value)
  at_sent a replica report value false test stands promising why made_is =
      with_item cfg.seqs slot i state (sending a replica report value s.own) stored (items.Accepted a.slot a.attempt.ballot value)
      (elsewhere a.slot a.attempt.ballot value test)
      (nothing_follows cfg.seqs slot i state s.own stored within sound was (sending a replica report value s.own)
      (left_as_it_was (sending a replica report value s.own) a.slot (with_vote a.attempt.ballot value (acceptor_at s.own slot)) test made_is)
      (off_slot slot (sent_attempt a replica report value) test ∙ sym (ap (attempt_at slot) stands ∙ off_slot slot a test)))
  at_sent a _ report value true test stands (promise_comes from _ comes) why made_is =
      let here = eqb-true a.slot slot test in
      let own = sending a (number_of from) report value s.own in
      let there = held a.slot here in
      let stood = was.attempt ∙ (ap (attempt_at slot) stands ∙ at_slot slot a here) in
      subst (λ (x : ℕ). After own (items.Accepted x a.attempt.ballot value)) (sym here)
      (vote_follows cfg.seqs slot i state s.own stored within sound was a.attempt.ballot value (with_vote a.attempt.ballot value (state.acceptors i))
      (Some (with_sending value (with_heard (number_of from) report a.attempt))) (Accept a.attempt.ballot value ∷ state.sent) own
      (send_sound cfg.seqs i state within sound (number_of from) report a.attempt value stood
      (told from (whats.Promise a.slot a.attempt.ballot report) comes here) why.not_yet (free_there a.slot a.attempt.ballot here why.none_greater)
      why.majority (ap (λ (x : AcceptorState Entry). value_to_send x (with_heard (number_of from) report a.attempt)) there ∙ why.value_is))
      (later (Accept a.attempt.ballot value)) (vote_put own a.slot a.attempt.ballot value test made_is)
      (sym (at_slot slot (sent_attempt a (number_of from) report value) here))
      (Contains_here (Accept a.attempt.ballot value) state.sent))
  at_sent a _ _ value true test stands (promise_alone one) why made_is =
      let here = eqb-true a.slot slot test in
      let own = sending a 0 None value s.own in
      let there = held a.slot here in
      let stood = was.attempt ∙ (ap (attempt_at slot) stands ∙ at_slot slot a here) in
      let first = first_alone one in
      subst (λ (x : ℕ). After own (items.Accepted x a.attempt.ballot value)) (sym here)
      (vote_follows cfg.seqs slot i state s.own stored within sound was a.attempt.ballot value (with_vote a.attempt.ballot value (state.acceptors i))
      (Some (with_sending value (with_heard i None a.attempt)))
      (Accept a.attempt.ballot value ∷ (Promise i a.attempt.ballot (state.acceptors i).accepted ∷ state.sent)) own
      (alone_sound cfg.seqs i state within sound a.attempt value stood why.not_yet (free_there a.slot a.attempt.ballot here why.none_greater)
      (subst (λ (k : ℕ). is_majority a.attempt.n (with_heard k None a.attempt).promises ≡ true) (sym first) why.majority)
      (ap (λ (x : AcceptorState Entry). value_to_send x (with_heard i None a.attempt)) there
      ∙ (ap (λ (k : ℕ). value_to_send (acceptor_at s.own a.slot) (with_heard k None a.attempt)) first ∙ why.value_is)))
      (λ m c. Contains_later (Accept a.attempt.ballot value) m (Promise i a.attempt.ballot (state.acceptors i).accepted ∷ state.sent)
      (Contains_later (Promise i a.attempt.ballot (state.acceptors i).accepted) m state.sent c)) (vote_put own a.slot a.attempt.ballot value test made_is)
      (ap (λ (k : ℕ). Some (with_sending value (with_heard k None a.attempt))) first ∙ sym (at_slot slot (sent_attempt a 0 None value) here))
      (Contains_here (Accept a.attempt.ballot value) (Promise i a.attempt.ballot (state.acceptors i).accepted ∷ state.sent)))

  -- ---- all of them

  followed : (item : Item) (own : SequencerState) → Stores n event s item own
      → acceptor_at own slot ≡ after_item slot (acceptor_at s.own slot) item → After own item
  followed _ _ (promised from at ballot comes free) made_is = at_promised _ at ballot (at == slot) refl refl made_is free.none_greater
  followed _ _ (accepted from at ballot entry comes free) made_is =
      at_accepted _ at ballot entry (at == slot) refl refl made_is free.none_greater (told from (whats.Accept at ballot entry) comes)
  followed _ _ (begins_at_once value why) made_is = at_begun_at_once value (length s.base.known == slot) refl why made_is
  followed _ _ (begins ballot value why above) made_is = at_begun ballot value (length s.base.known == slot) refl why above made_is
  followed _ _ (sends a replica report value counted why) made_is =
      at_sent a replica report value (a.slot == slot) refl counted.stands counted.promise why made_is

  pub stores_follow : (item : Item) (own : SequencerState) → Stores n event s item own → After own item
  stores_follow item own why = followed item own why ((acceptors_by_items slot).stores n event s item own why)
