-- What each place of a sequencer's table keeps: it stays in order, what it stores and sends is valid, and its items lead to what a restart leaves.
use Rattle.std.proofs.Common.{◌≡◌, ℕ, ◌+◌, ◌<◌, Bool, true, false, List, [], ◌∷◌, length, set, Option, Some, None, refl, sym, ap, subst, ◌∙◌, arith}
use Rattle.std.specs.Prelude.{if◌then◌else◌}
use Rattle.std.proofs.lemmas.Bool.{ltb-true, lt-ltb}
use Rattle.std.proofs.lemmas.List.{length-append}
use Rattle.spec_base.specs.Spelling.{IsValidNode}
use Rattle.majority.specs.Ballots.{greater_promise}
use Rattle.majority.specs.Acceptors.{AcceptorState, fresh_acceptor, with_promise, with_vote}
use Rattle.majority.specs.Proposers.{Attempt, with_heard, greater_report}
use Rattle.quota_table.specs.Entries.{IsValidEntry}
use Rattle.msg_wire.specs.Nodes.{number_of}
use Rattle.msg_wire.specs.Valid.{IsBallot, IsValidConfig, IsValidReport, IsValidCommand, IsValidWhat, IsValidItem, IsValidEvent}
use Rattle.node_rules.specs.Names.{NodeId, Entry, What, Item, Event}
use Rattle.node_rules.specs.Names.items
use Rattle.node_rules.specs.Nodes.{Base, Node, has_slot, knowing, reset_base, with_own}
use Rattle.node_rules.specs.Sound.{IsBase}
use Rattle.node_rules.specs.Turns.{started}
use Rattle.node_rules.proofs.Lists.{all_push, all_at}
use Rattle.node_rules.proofs.Limits.{seqs_within}
use Rattle.node_rules.proofs.Telling.{with_entry}
use Rattle.node_rules.proofs.Kept.{comes_valid, told_valid, Keeping, KeepsAfter}
use Rattle.seq_node.specs.States.{SlotAttempt, SequencerState, only_acceptors, acceptor_at, reaching, with_idle}
use Rattle.seq_node.specs.Attempts.{new_ballot}
use Rattle.seq_node.specs.Restart.{fit, reset_of}
use Rattle.seq_node.specs.Sound.{MayBeValid, IsAcceptor, IsAttempt, MayBeAttempt, IsOrderly}
use Rattle.seq_node.proofs.Limits.{slots_known, valid_wanted, IsWanted}
use Rattle.seq_node.proofs.Others.{valid_other_sequencers, valid_other_nodes}
use Rattle.seq_node.proofs.Proposals.{valid_value}
use Rattle.seq_node.proofs.Ballots.{promises_it, accepts_it, open_ballot, on_greater, valid_reported}
use Rattle.seq_node.proofs.Orderly.{IsOver, set_back, own_with, own_wishing, acceptor_valid, standing, further, acceptor_put, acceptor_changed, over_is, report_put, reset_sound}
use Rattle.seq_node.proofs.Places.{AsksFor, by_learn, by_prepare, by_accept, Learns, told, chosen, Counts, Promising, promise_comes, promise_alone, Waits, is_late, is_lower, is_waiting, Sends, Says, tells, announces, promises, accepts, prepares, proposes, fills, begun, Stores, promised, accepted, begins_at_once, begins, sends, Changes, waits, hears, reports, wishes, idles, over, sequencer_places}

-- of its own name holds P
abbrev pub IsOrderlyAs : (NodeId → Type 0) → Node SequencerState → Type 0
IsOrderlyAs P s = IsOrderly s × P s.base.me

abbrev pub sequencer_keeping : (NodeId → Type 0) → Keeping SequencerState
sequencer_keeping P = record { Is = IsOrderlyAs P; fit = fit; Leads = λ a s. a ≡ reset_of s }

-- ---- what a node in order has

-- a new ballot is above what the own acceptor has promised
new_open : (s : Node SequencerState) (ballot : ℕ) → IsValidConfig s.base.cfg → ballot ≡ new_ballot (length s.base.known) (started s)
    → greater_promise (acceptor_at s.own (length s.base.known)).promised ballot ≡ None
new_open s ballot valid is =
    subst (λ (b : ℕ). greater_promise (acceptor_at s.own (length s.base.known)).promised b ≡ None) (sym is)
    (open_ballot (number_of s.base.me) s.base.cfg.seqs _ (acceptor_at s.own (length s.base.known)) (seqs_within s.base.cfg.seqs valid.seqs).0)

-- the value that an attempt sends
sent_valid : (s : Node SequencerState) (a : SlotAttempt) (replica : ℕ) (report : Option (ℕ × Entry)) (value : Entry) → IsOrderly s → s.own.attempt ≡ Some a
    → IsValidReport report
    → Sends s a replica report value → IsValidEntry value
sent_valid s a replica report value is here reported sent =
    let at = standing s a is here in
    let heard = on_greater IsValidReport a.attempt.reported report at.reported reported in
    subst IsValidEntry sent.value_is
    (valid_reported (greater_report (acceptor_at s.own a.slot).accepted (with_heard replica report a.attempt).reported) a.attempt.wish
    (on_greater IsValidReport (acceptor_at s.own a.slot).accepted (with_heard replica report a.attempt).reported (acceptor_valid s.own a.slot is.own) heard) at.wish)

-- a new attempt: it votes for its value at once, or promises its ballot
pub begun_orderly : (at_once : Bool) (ballot : ℕ) (value : Entry) (s : Node SequencerState) → IsOrderly s → has_slot s.base ≡ true → IsBallot ballot
    → IsValidEntry value
    → IsOrderly (with_own (begun at_once ballot value s) s)
begun_orderly true ballot value s is slot small good =
    let low = ltb-true _ _ slot in
    acceptor_put s (length s.base.known) _ _ 0 is low (small, good) (omega arith)
    (λ more longer within. record { replica_is = refl; seqs_are = refl; slot = refl; slot_limit = low; acceptor = within; ballot = small; wish = good; reported = tt; sending = good })
begun_orderly false ballot value s is slot small good =
    let low = ltb-true _ _ slot in
    acceptor_put s (length s.base.known) _ _ 0 is low (acceptor_valid s.own (length s.base.known) is.own) (omega arith)
    (λ more longer within. record { replica_is = refl; seqs_are = refl; slot = refl; slot_limit = low; acceptor = within; ballot = small; wish = good; reported = tt; sending = tt })

-- ---- what a restart leaves

-- of known entries and acceptors
abbrev left_with : Base → List (AcceptorState Entry) → Node SequencerState
left_with b acceptors = record { base = reset_base b; own = only_acceptors acceptors }

-- and with another acceptor at a slot
abbrev left_at : Node SequencerState → ℕ → AcceptorState Entry → Node SequencerState
left_at s slot acceptor = left_with s.base (set (reaching (slot + 1) s.own.acceptors) slot acceptor)

brings_promise : (s : Node SequencerState) (slot ballot : ℕ) → greater_promise (acceptor_at s.own slot).promised ballot ≡ None
    → fit (reset_of s) (items.Promised slot ballot) ≡ left_at s slot (with_promise ballot (acceptor_at s.own slot))
brings_promise s slot ballot none = ap (left_at s slot) (promises_it ballot (acceptor_at s.own slot) none)

brings_vote : (s : Node SequencerState) (slot ballot : ℕ) (entry : Entry) → greater_promise (acceptor_at s.own slot).promised ballot ≡ None
    → fit (reset_of s) (items.Accepted slot ballot entry) ≡ left_at s slot (with_vote ballot entry (acceptor_at s.own slot))
brings_vote s slot ballot entry none = ap (left_at s slot) (accepts_it ballot entry (acceptor_at s.own slot) none)

-- ---- a learned entry

over_of : (s : Node SequencerState) (entry : Entry) → IsOrderly s → IsOver (with_idle 0 s.own) (over s entry)
over_of s entry is =
    over_is s.own.attempt _ entry (with_idle 0 s.own) refl (own_with s.own.acceptors s.own.attempt 0 s.own is.own.acceptors (omega arith) is.own)
    (λ a here. (standing s a is here).slot ∙ sym (slots_known s.base))

knows_orderly : (s : Node SequencerState) (entry : Entry) → IsBase (knowing entry s.base) → IsOrderly s → IsOrderly (with_entry over entry s)
knows_orderly s entry base is =
    let ended = over_of s entry is in
    record { base = base; own = ended.own; attempt = subst (MayBeAttempt _ _ _ _) (sym ended.none) tt }

leads_known : (s : Node SequencerState) (entry : Entry) → has_slot s.base ≡ true → IsOrderly s
    → fit (reset_of s) (items.Known entry) ≡ reset_of (with_entry over entry s)
leads_known s entry slot is =
    ap (λ (b : Bool). if b then left_with (knowing entry s.base) s.own.acceptors else reset_of s) slot
    ∙ ap (left_with (knowing entry s.base)) (sym (over_of s entry is).acceptors)

-- ---- the places

module _ (n : Node SequencerState) (event : Event) (valid : IsValidEvent event) where
  asker_valid : (from : NodeId) (slot : ℕ) → AsksFor n event from slot → IsValidNode from
  asker_valid from slot (by_learn comes) = (comes_valid n event from _ comes valid).0
  asker_valid from slot (by_prepare ballot comes) = (comes_valid n event from _ comes valid).0
  asker_valid from slot (by_accept ballot entry comes) = (comes_valid n event from _ comes valid).0

  promise_valid : (s : Node SequencerState) (slot ballot replica : ℕ) (report : Option (ℕ × Entry)) → Promising n event s slot ballot replica report
      → IsValidReport report
  promise_valid s slot ballot _ report (promise_comes from _ comes) = (comes_valid n event from _ comes valid).1.2
  promise_valid s slot ballot _ _ (promise_alone one) = tt

  says_valid : (s : Node SequencerState) (to : NodeId) (what : What) → Says n event s to what → IsOrderly s → IsValidNode to × IsValidWhat what
  says_valid s to _ (tells _ slot entry why known here) is =
      let low : slot < length s.base.known = ltb-true _ _ known in
      (asker_valid to slot why, (omega (arith, low, is.base.few), omega (arith, low), is.base.few, all_at IsValidEntry s.base.known slot entry is.base.entries here))
  says_valid s to _ (announces _ i slot entry at more here) is = (
    all_at IsValidNode _ i to (valid_other_nodes s.base.cfg s.base.me is.base.cfg) at,
    (omega (arith, more, is.base.few), omega arith, omega (arith, more, is.base.few), all_at IsValidEntry s.base.known slot entry is.base.entries here),
  )
  says_valid s to _ (promises _ slot ballot report comes unknown here) is =
      let come = comes_valid n event to _ comes valid in
      (come.0, (come.1.0, come.1.1, subst IsAcceptor here (acceptor_valid s.own slot is.own)))
  says_valid s to _ (accepts _ slot ballot entry comes unknown here) is = let come = comes_valid n event to _ comes valid in (come.0, (come.1.0, come.1.1))
  says_valid s to _ (prepares _ i a at stands next none here) is =
      let own = standing s a is stands in
      (all_at IsValidNode _ i to (valid_other_sequencers s.base.cfg s.base.me is.base.cfg) at, (own.slot_limit, own.ballot))
  says_valid s to _ (proposes _ i a value at stands sent here) is =
      let own = standing s a is stands in
      (all_at IsValidNode _ i to (valid_other_sequencers s.base.cfg s.base.me is.base.cfg) at, (own.slot_limit, own.ballot, subst MayBeValid sent own.sending))
  says_valid s _ _ (fills i w e need at) is = all_at IsWanted _ i w (valid_wanted s.base _ is.base) at

  learns_valid : (s : Node SequencerState) (entry : Entry) → Learns n event s entry → IsOrderly s → IsValidEntry entry × (has_slot s.base ≡ true)
  learns_valid s entry (told comes) is = told_valid n event s entry comes valid
  learns_valid s entry (chosen a stands sent most) is =
      let own = standing s a is stands in
      (subst MayBeValid sent own.sending, lt-ltb _ _ (omega (arith, own.slot, own.slot_limit)))

  -- the item, the node after it, and what a restart leaves of both
  stores_valid : (s : Node SequencerState) (item : Item) (own : SequencerState) → Stores n event s item own → IsOrderly s
      → IsValidItem item × IsOrderly (with_own own s) × (fit (reset_of s) item ≡ reset_of (with_own own s))
  stores_valid s _ _ (promised from slot ballot comes opens) is =
      let said = (comes_valid n event from _ comes valid).1 in
      (said, acceptor_changed s slot _ is said.0 (acceptor_valid s.own slot is.own), brings_promise s slot ballot opens.none_greater)
  stores_valid s _ _ (accepted from slot ballot entry comes opens) is =
      let said = (comes_valid n event from _ comes valid).1 in
      (said, acceptor_changed s slot _ is said.0 (said.1, said.2), brings_vote s slot ballot entry opens.none_greater)
  stores_valid s _ _ (begins_at_once value starts) is =
      let good : IsValidEntry value = subst MayBeValid starts.value_is (valid_value s is) in (
        (ltb-true _ _ starts.slot, omega arith, good),
        begun_orderly true 0 value s is starts.slot (omega arith) good,
        brings_vote s (length s.base.known) 0 value (new_open s 0 is.base.cfg starts.ballot_is),
      )
  stores_valid s _ _ (begins ballot value starts above) is =
      let good : IsValidEntry value = subst MayBeValid starts.value_is (valid_value s is) in (
        (ltb-true _ _ starts.slot, ltb-true _ _ starts.low),
        begun_orderly false ballot value s is starts.slot (ltb-true _ _ starts.low) good,
        brings_promise s (length s.base.known) ballot (new_open s ballot is.base.cfg starts.ballot_is),
      )
  stores_valid s _ _ (sends a replica report value counts sent) is =
      let at = standing s a is counts.stands in
      let reported = promise_valid s a.slot a.attempt.ballot replica report counts.promise in
      let good = sent_valid s a replica report value is counts.stands reported sent in (
        (at.slot_limit, at.ballot, good),
        acceptor_put s a.slot _ _ s.own.idle is at.slot_limit (at.ballot, good) is.own.idle
            (λ more longer within. further _ _ _ _ more a _ _ _ _ at within (on_greater IsValidReport a.attempt.reported report at.reported reported) good),
        brings_vote s a.slot a.attempt.ballot value sent.none_greater,
      )

  waits_valid : (s : Node SequencerState) (a : SlotAttempt) (replica : ℕ) (report : Option (ℕ × Entry)) (attempt : Attempt Entry) (more : ℕ)
      → Counts n event s a replica report → Waits s a replica report attempt → IsOrderly s → a.slot < more
      → IsAttempt (number_of s.base.me) s.base.cfg.seqs (length s.base.known) more (record a { attempt = attempt })
  waits_valid s a replica report _ more counts (is_late late) is within = let at = standing s a is counts.stands in further _ _ _ _ _ a _ _ _ _ at within at.reported at.sending
  waits_valid s a replica report _ more counts (is_lower greater e) is within = let at = standing s a is counts.stands in further _ _ _ _ _ a _ _ _ _ at within at.reported at.sending
  waits_valid s a replica report _ more counts (is_waiting early few) is within =
      let at = standing s a is counts.stands in
      further _ _ _ _ _ a _ _ _ _ at within
      (on_greater IsValidReport a.attempt.reported report at.reported (promise_valid s a.slot a.attempt.ballot replica report counts.promise)) at.sending

  changes_valid : (s : Node SequencerState) (own : SequencerState) → Changes n event s own → IsOrderly s
      → IsOrderly (with_own own s) × (reset_of s ≡ reset_of (with_own own s))
  changes_valid s _ (waits a replica report attempt counts why) is =
      let at = standing s a is counts.stands in (
        acceptor_put s a.slot (acceptor_at s.own a.slot) _ s.own.idle is at.slot_limit (acceptor_valid s.own a.slot is.own) is.own.idle
            (λ more longer within. waits_valid s a replica report attempt more counts why is within),
        ap (left_with s.base) (sym (set_back s.own.acceptors a.slot fresh_acceptor at.acceptor)),
      )
  changes_valid s _ (hears a replica value stands comes sent) is =
      let at = standing s a is stands in (
        record {
          base = is.base;
          own = own_with s.own.acceptors _ s.own.idle s.own is.own.acceptors is.own.idle is.own;
          attempt = further _ _ _ _ _ a _ _ _ _ at at.acceptor at.reported at.sending;
        },
        refl,
      )
  changes_valid s _ (reports from len comes) is = report_put from len s (comes_valid n event from _ comes valid).1 is
  changes_valid s _ (wishes command e room) is = (
    record {
      base = is.base;
      own =
          own_wishing _ s.own.attempt s.own
          (record {
            each = all_push IsValidCommand s.own.wishes command is.own.wishes.each (subst IsValidEvent e valid);
            few = omega (arith, ltb-true _ _ room, length-append s.own.wishes (command ∷ []));
          })
          is.own;
      attempt = is.attempt;
    },
    refl,
  )
  changes_valid s _ (idles e) is =
      (record { base = is.base; own = own_with s.own.acceptors s.own.attempt _ s.own is.own.acceptors (omega arith) is.own; attempt = is.attempt }, refl)

  pub sequencer_keeps : (P : NodeId → Type 0) → KeepsAfter sequencer_places over (sequencer_keeping P) n event
  sequencer_keeps P = record {
    base = λ s is. is.0.base;
    resets = λ is. ((reset_sound n is.0, is.1), λ a leads. leads);
    learns = λ s entry why is. learns_valid s entry why is.0;
    knows = λ s entry base is. (knows_orderly s entry base is.0, is.1);
    sees = λ s count base is. (record { base = base; own = is.0.own; attempt = is.0.attempt }, is.1);
    ticks = λ s base is. (record { base = base; own = is.0.own; attempt = is.0.attempt }, is.1);
    says = λ s to what why is. says_valid s to what why is.0;
    stores = λ s item own why is. let kept = stores_valid s item own why is.0 in (kept.0, (kept.1, is.1));
    changes = λ s own why is. ((changes_valid s own why is.0).0, is.1);
    leads_known = λ a s entry sure leads. ap (λ (m : Node SequencerState). fit m (items.Known entry)) leads ∙ leads_known s entry sure.0 sure.1.0;
    leads_seen = λ a s count leads. leads;
    leads_ticked = λ a s leads. leads;
    leads_stored = λ a s item own why is leads. ap (λ (m : Node SequencerState). fit m item) leads ∙ (stores_valid s item own why is.0).2;
    leads_changed = λ a s own why leads. leads ∙ (changes_valid s own why.0 why.1.0).1;
  }
