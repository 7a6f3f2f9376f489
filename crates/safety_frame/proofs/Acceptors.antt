-- A sequencer's acceptors are what its items give.
use Rattle.std.proofs.Common.{◌≡◌, ◌∙◌, ℕ, zero, suc, ◌+◌, ◌-◌, ◌==◌, Bool, true, false, if◌then◌else◌, List, [], ◌∷◌, ◌++◌, length, replicate, get_or, Option, Some, None, refl, sym, subst, arith}
use Rattle.std.proofs.lemmas.Bool.{eqb-true, eqb-false}
use Rattle.std.proofs.lemmas.List.{length-append, length-replicate, get_or-set_same, get_or-set_other}
use Rattle.majority.specs.Acceptors.{AcceptorState, fresh_acceptor, with_promise, with_vote}
use Rattle.msg_wire.specs.Entries.{is_entry}
use Rattle.node_rules.specs.Names.{NodeId, Entry, Command, Item, Event}
use Rattle.node_rules.specs.Names.nodes
use Rattle.node_rules.specs.Names.sides
use Rattle.node_rules.specs.Nodes.{Node, agreed_by}
use Rattle.seq_node.specs.States.{SlotAttempt, SequencerState, acceptor_at, reaching, with_acceptor, with_attempt, with_idle, with_report}
use Rattle.seq_node.specs.Learning.{attempt_over, wish_granted}
use Rattle.seq_node.proofs.Places.{Stores, promised, accepted, begins_at_once, begins, sends, Changes, waits, hears, reports, wishes, idles}
use Rattle.safety_frame.specs.StableItems.{after_item}
use Rattle.safety_frame.proofs.NodeKinds.{sequencers}
use Rattle.safety_frame.proofs.Parts.{IsByItems}

-- ---- an acceptor that is put at a slot

fresh_beyond : {A : Type 0} (count i : ℕ) (d : A) → get_or (replicate count d) i d ≡ d
fresh_beyond zero i d = refl
fresh_beyond (suc count) zero d = refl
fresh_beyond (suc count) (suc i) d = fresh_beyond count i d

padded : {A : Type 0} (xs : List A) (count i : ℕ) (d : A) → get_or (xs ++ replicate count d) i d ≡ get_or xs i d
padded [] count i d = fresh_beyond count i d
padded (x ∷ xs) count zero d = refl
padded (x ∷ xs) count (suc i) d = padded xs count i d

put_same : (own : SequencerState) (slot : ℕ) (a : AcceptorState Entry) → acceptor_at (with_acceptor slot a own) slot ≡ a
put_same own slot a =
    let fresh : AcceptorState Entry = fresh_acceptor in
    let count : ℕ = slot + 1 - length own.acceptors in
    get_or-set_same (reaching (slot + 1) own.acceptors) slot a fresh
    (omega (arith, length-append own.acceptors (replicate count fresh), length-replicate count fresh))

put_other : (own : SequencerState) (at slot : ℕ) (a : AcceptorState Entry) → (at == slot) ≡ false
    → acceptor_at (with_acceptor at a own) slot ≡ acceptor_at own slot
put_other own at slot a other =
    get_or-set_other (reaching (at + 1) own.acceptors) at slot a fresh_acceptor (λ e. eqb-false at slot other (sym e))
    ∙ padded own.acceptors (at + 1 - length own.acceptors) slot fresh_acceptor

-- one that is changed at a slot
put_changed : (own : SequencerState) (at slot : ℕ) (change : AcceptorState Entry → AcceptorState Entry) (test : Bool) → (at == slot) ≡ test
    → acceptor_at (with_acceptor at (change (acceptor_at own at)) own) slot ≡ (if test then change (acceptor_at own slot) else acceptor_at own slot)
put_changed own at slot change true e =
    subst (λ (n : ℕ). acceptor_at (with_acceptor at (change (acceptor_at own at)) own) n ≡ change (acceptor_at own n)) (eqb-true at slot e)
    (put_same own at (change (acceptor_at own at)))
put_changed own at slot change false e = put_other own at slot (change (acceptor_at own at)) e

-- put back as it was
put_back : (own : SequencerState) (at slot : ℕ) (test : Bool) → (at == slot) ≡ test
    → acceptor_at (with_acceptor at (acceptor_at own at) own) slot ≡ acceptor_at own slot
put_back own at slot true e = put_changed own at slot (λ a. a) true e
put_back own at slot false e = put_changed own at slot (λ a. a) false e

-- ---- what changes no acceptor

report_keeps : (from : NodeId) (len slot : ℕ) (s : SequencerState) → acceptor_at (with_report from len s) slot ≡ acceptor_at s slot
report_keeps (nodes.Shard shard sides.Primary) len slot s = refl
report_keeps (nodes.Shard shard sides.Backup) len slot s = refl
report_keeps (nodes.Seq number) len slot s = refl
report_keeps (nodes.Client number) len slot s = refl
report_keeps (nodes.Consumer number) len slot s = refl

grant_keeps : (granted : Bool) (slot : ℕ) (s : SequencerState) (left : List Command)
    → acceptor_at (if granted then record s { wishes = left } else s) slot ≡ acceptor_at s slot
grant_keeps true slot s left = refl
grant_keeps false slot s left = refl

over_if : (over : Bool) (a : SlotAttempt) (entry : Entry) (slot : ℕ) (s : SequencerState)
    → acceptor_at (if over then wish_granted a.wished entry (with_attempt None s) else s) slot ≡ acceptor_at s slot
over_if true a entry slot s = grant_keeps (is_entry a.wished entry) slot (with_attempt None s) _
over_if false a entry slot s = refl

over_keeps : (attempt : Option SlotAttempt) (at : ℕ) (entry : Entry) (slot : ℕ) (s : SequencerState)
    → acceptor_at (attempt_over attempt at entry s) slot ≡ acceptor_at s slot
over_keeps None at entry slot s = refl
over_keeps (Some a) at entry slot s = over_if (a.slot == at) a entry slot s

-- ---- at each place

module _ (slot : ℕ) where
  stores_part : (n : Node SequencerState) (event : Event) (s : Node SequencerState) (item : Item) (own : SequencerState) → Stores n event s item own
      → acceptor_at own slot ≡ after_item slot (acceptor_at s.own slot) item
  stores_part n event s _ _ (promised from at ballot comes free) = put_changed s.own at slot (with_promise ballot) (at == slot) refl
  stores_part n event s _ _ (accepted from at ballot entry comes free) = put_changed s.own at slot (with_vote ballot entry) (at == slot) refl
  stores_part n event s _ _ (begins_at_once value why) = put_changed s.own (length s.base.known) slot (with_vote 0 value) (length s.base.known == slot) refl
  stores_part n event s _ _ (begins ballot value why later) =
      put_changed s.own (length s.base.known) slot (with_promise ballot) (length s.base.known == slot) refl
  stores_part n event s _ _ (sends a replica report value counted why) =
      put_changed s.own a.slot slot (with_vote a.attempt.ballot value) (a.slot == slot) refl

  changes_part : (n : Node SequencerState) (event : Event) (s : Node SequencerState) (own : SequencerState) → Changes n event s own
      → acceptor_at own slot ≡ acceptor_at s.own slot
  changes_part n event s _ (waits a replica report attempt counted why) = put_back s.own a.slot slot (a.slot == slot) refl
  changes_part n event s _ (hears a replica value stands why sending) = refl
  changes_part n event s _ (reports from len comes) = report_keeps from len slot s.own
  changes_part n event s _ (wishes command why room) = refl
  changes_part n event s _ (idles why) = refl

  pub acceptors_by_items : IsByItems sequencers (λ s. acceptor_at s.own slot) (after_item slot)
  acceptors_by_items = record {
    learns = λ s entry. over_keeps s.own.attempt (agreed_by s.base).slots entry slot (with_idle 0 s.own);
    sees = λ s count. refl;
    ticks = λ s. refl;
    stores = stores_part;
    changes = changes_part;
    resets = λ n. refl;
  }
