-- Where a sequencer's own part changes without an item, the machine of each slot follows: its attempt counts a promise or an acceptance,
-- or it ends.
use Rattle.std.proofs.Common.{◌≡◌, ◌∙◌, ℕ, ◌<◌, ◌==◌, Bool, true, false, List, Option, Some, is_some, inl, inr, refl, sym, ap, subst, arith}
use Rattle.std.proofs.lemmas.Bool.{eqb-true}
use Rattle.majority.specs.Proposers.{with_heard, with_acceptance}
use Rattle.majority.specs.Votes.{HasVote}
use Rattle.majority.specs.Slot.{SlotState}
use Rattle.majority.specs.Agreement.{IsSound}
use Rattle.msg_wire.specs.Nodes.{number_of}
use Rattle.node_rules.specs.Names.{Event}
use Rattle.node_rules.specs.Nodes.{Node, agreed_by}
use Rattle.node_rules.proofs.Places.{Comes}
use Rattle.seq_node.specs.States.{SlotAttempt, SequencerState, acceptor_at, with_idle}
use Rattle.seq_node.specs.Restart.{reset_of}
use Rattle.seq_node.proofs.Places.{Promising, promise_comes, promise_alone, Accepting, acceptance_comes, acceptance_alone, is_late, is_lower, is_waiting, Changes, waits, hears, reports, wishes, idles, over}
use Rattle.runs.specs.Names.{NodeId, Config, Entry, Item, What}
use Rattle.runs.specs.Names.whats
use Rattle.safety_frame.proofs.Names.{IsNamed}
use Rattle.safety_frame.proofs.Acceptors.{acceptors_by_items}
use Rattle.safety_agreement.proofs.Standing.{over_or_same, report_leaves}
use Rattle.safety_agreement.proofs.Mirrors.{attempt_at, at_slot, off_slot, IsOffered, IsOfferedIfAny, IsSaid, Mirrors}
use Rattle.safety_agreement.proofs.Machine.{count_sound, told_vote, own_vote, stands_there}
use Rattle.safety_agreement.proofs.Hearing.{IsPromise, wait_sound}
use Rattle.safety_agreement.proofs.Changing.{Follows, nothing_follows, change_follows, drop_follows}

module _ (cfg : Config) (slot : ℕ) (me : NodeId) (within : number_of me < cfg.seqs) (n : Node SequencerState) (event : Event) (s : Node SequencerState)
    (state : SlotState Entry) (stored : List Item) (sound : IsSound cfg.seqs state) (was : Mirrors slot (number_of me) state s.own stored)
    (named : IsNamed cfg me s) (told : (from : NodeId) (what : What) → Comes n event from what → IsSaid slot state.sent from what) where
  abbrev i : ℕ
  i = number_of me

  abbrev After : SequencerState → Type 0
  After own = Follows cfg.seqs slot i state own stored

  stood : (a : SlotAttempt) → s.own.attempt ≡ Some a → a.slot ≡ slot → state.attempts i ≡ Some a.attempt
  stood a stands here = was.attempt ∙ (ap (attempt_at slot) stands ∙ at_slot slot a here)

  first_alone : s.base.cfg.seqs ≡ 1 → i ≡ 0
  first_alone one = let few : cfg.seqs ≡ 1 = sym (ap (λ (c : Config). c.seqs) named.0) ∙ one in omega (arith, few, within)

  -- what the attempt asks for was sent
  pub asked_for : (a : SlotAttempt) → s.own.attempt ≡ Some a → a.slot ≡ slot → IsOffered state.sent a.attempt.ballot a.attempt.sending
  asked_for a stands here = subst (IsOfferedIfAny state.sent) (stood a stands here) was.offered

  -- an attempt for another slot changes
  elsewhere : (a b : SlotAttempt) (own : SequencerState) → (a.slot == slot) ≡ false → b.slot ≡ a.slot → s.own.attempt ≡ Some a → own.attempt ≡ Some b
      → acceptor_at own slot ≡ acceptor_at s.own slot → After own
  elsewhere a b own test same stands put made_is =
      let other : (b.slot == slot) ≡ false = subst (λ (k : ℕ). (k == slot) ≡ false) (sym same) test in
      nothing_follows cfg.seqs slot i state s.own stored within sound was own made_is
      (ap (attempt_at slot) put ∙ (off_slot slot b other ∙ sym (ap (attempt_at slot) stands ∙ off_slot slot a test)))

  -- it is as it was
  same_attempt : (own : SequencerState) → own.attempt ≡ s.own.attempt → acceptor_at own slot ≡ acceptor_at s.own slot → After own
  same_attempt own same made_is = nothing_follows cfg.seqs slot i state s.own stored within sound was own made_is (ap (attempt_at slot) same)

  -- ---- a promise

  promise_is : (a : SlotAttempt) (replica : ℕ) (report : Option (ℕ × Entry)) → a.slot ≡ slot → state.attempts i ≡ Some a.attempt
      → Promising n event s a.slot a.attempt.ballot replica report
      → IsPromise state.sent a.attempt replica report
  promise_is a _ report here stood_there (promise_comes from _ comes) = inl (told from (whats.Promise a.slot a.attempt.ballot report) comes here)
  promise_is a _ _ here stood_there (promise_alone one) =
      inr (sym (first_alone one) ∙ sym (stands_there cfg.seqs i state within sound a.attempt stood_there).here, refl)

  waits_on : (a : SlotAttempt) (replica : ℕ) (report : Option (ℕ × Entry)) (test : Bool) → (a.slot == slot) ≡ test → s.own.attempt ≡ Some a
      → Promising n event s a.slot a.attempt.ballot replica report → is_some a.attempt.sending ≡ false → (own : SequencerState)
      → own.attempt ≡ Some (record a { attempt = with_heard replica report a.attempt }) → acceptor_at own slot ≡ acceptor_at s.own slot → After own
  waits_on a replica report false test stands promising not_yet own put made_is = elsewhere a
      (record a { attempt = with_heard replica report a.attempt }) own test refl stands put made_is
  waits_on a replica report true test stands promising not_yet own put made_is =
      let here = eqb-true a.slot slot test in
      let there = stood a stands here in
      change_follows cfg.seqs slot i state s.own stored within sound was (state.acceptors i) (Some (with_heard replica report a.attempt)) state.sent own
      (wait_sound cfg.seqs i state within sound replica report a.attempt there (promise_is a replica report here there promising) not_yet) (λ m c. c)
      (was.acceptor ∙ sym made_is) (sym (ap (attempt_at slot) put ∙ at_slot slot (record a { attempt = with_heard replica report a.attempt }) here))
      (asked_for a stands here)

  -- ---- an acceptance

  vote_is : (a : SlotAttempt) (replica : ℕ) (value : Entry) → a.slot ≡ slot → state.attempts i ≡ Some a.attempt → a.attempt.sending ≡ Some value
      → Accepting n event s a.slot a.attempt.ballot replica
      → (replica < cfg.seqs) × HasVote state.votes replica a.attempt.ballot value
  vote_is a _ value here there sending (acceptance_comes from comes) =
      told_vote cfg.seqs i state within sound (number_of from) a.attempt value there sending (told from (whats.Accepted a.slot a.attempt.ballot) comes here)
  vote_is a _ value here there sending (acceptance_alone one) =
      subst (λ (k : ℕ). (k < cfg.seqs) × HasVote state.votes k a.attempt.ballot value) (first_alone one)
      (within, own_vote cfg.seqs i state within sound a.attempt value there sending)

  counts_on : (a : SlotAttempt) (replica : ℕ) (value : Entry) (test : Bool) → (a.slot == slot) ≡ test → s.own.attempt ≡ Some a
      → Accepting n event s a.slot a.attempt.ballot replica → a.attempt.sending ≡ Some value → (own : SequencerState)
      → own.attempt ≡ Some (record a { attempt = with_acceptance replica a.attempt }) → acceptor_at own slot ≡ acceptor_at s.own slot → After own
  counts_on a replica value false test stands why sending own put made_is = elsewhere a
      (record a { attempt = with_acceptance replica a.attempt }) own test refl stands put made_is
  counts_on a replica value true test stands why sending own put made_is =
      let here = eqb-true a.slot slot test in
      let there = stood a stands here in
      let vote = vote_is a replica value here there sending why in
      change_follows cfg.seqs slot i state s.own stored within sound was (state.acceptors i) (Some (with_acceptance replica a.attempt)) state.sent own
      (count_sound cfg.seqs i state within sound replica a.attempt value there sending vote.0 vote.1) (λ m c. c)
      (was.acceptor ∙ sym made_is) (sym (ap (attempt_at slot) put ∙ at_slot slot (record a { attempt = with_acceptance replica a.attempt }) here))
      (asked_for a stands here)

  -- ---- all of them

  followed : (own : SequencerState) → Changes n event s own → acceptor_at own slot ≡ acceptor_at s.own slot → After own
  followed _ (waits a replica report _ counted (is_late late)) made_is = same_attempt _ (sym counted.stands) made_is
  followed _ (waits a replica report _ counted (is_lower greater e)) made_is = same_attempt _ (sym counted.stands) made_is
  followed _ (waits a replica report _ counted (is_waiting not_yet few)) made_is =
      waits_on a replica report (a.slot == slot) refl counted.stands counted.promise not_yet _ refl made_is
  followed _ (hears a replica value stands why sending) made_is = counts_on a replica value (a.slot == slot) refl stands why sending _ refl made_is
  followed _ (reports from len comes) made_is = same_attempt _ (report_leaves from len s.own) made_is
  followed _ (wishes command why room) made_is = same_attempt _ refl made_is
  followed _ (idles why) made_is = same_attempt _ refl made_is

  pub changes_follow : (own : SequencerState) → Changes n event s own → After own
  changes_follow own why = followed own why ((acceptors_by_items slot).changes n event s own why)

  pub learns_follow : (entry : Entry) → After (over s entry)
  learns_follow entry =
      let made_is = (acceptors_by_items slot).learns s entry in
      elim (over_or_same s.own.attempt (agreed_by s.base).slots entry (with_idle 0 s.own)) [
        | inl ended ↦ drop_follows cfg.seqs slot i state s.own stored within sound was (over s entry) made_is (ap (attempt_at slot) ended)
        | inr same ↦ nothing_follows cfg.seqs slot i state s.own stored within sound was (over s entry) made_is (ap (attempt_at slot) same)
      ]

-- a restart ends what stood
pub reset_follows : (cfg : Config) (slot : ℕ) (me : NodeId) (within : number_of me < cfg.seqs) (n : Node SequencerState) (state : SlotState Entry)
    (stored : List Item) → IsSound cfg.seqs state → Mirrors slot (number_of me) state n.own stored
    → Follows cfg.seqs slot (number_of me) state (reset_of n).own stored
reset_follows cfg slot me within n state stored sound was =
    drop_follows cfg.seqs slot (number_of me) state n.own stored within sound was (reset_of n).own ((acceptors_by_items slot).resets n) refl
