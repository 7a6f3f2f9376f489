-- What nodes do that are no sequencers: they say nothing of slots, and know what they were told.
use Rattle.std.proofs.Common.{◌≡◌, ◌∙◌, ℕ, true, false, length, Some, inl, inr, refl, sym, ap, subst}
use Rattle.std.specs.Prelude.{IsTrue}
use Rattle.std.specs.List.{slice_get}
use Rattle.std.proofs.lemmas.Bool.{and_parts, false≢true, false_from_ne_true, eq-eqb}
use Rattle.majority.specs.Slot.{SlotState}
use Rattle.msg_wire.specs.Heeded.{goes_between}
use Rattle.msg_wire.specs.Nodes.{number_of, is_sequencer, is_replica, is_client, is_consumer, same_node}
use Rattle.node_rules.specs.Names.{Event}
use Rattle.node_rules.specs.Nodes.{Node}
use Rattle.node_rules.specs.Turns.{Turn}
use Rattle.node_rules.proofs.Places.{Comes, IsTold, unshown_sites}
use Rattle.runs.specs.Names.{NodeId, Entry, What}
use Rattle.runs.specs.Names.nodes
use Rattle.runs.specs.Names.whats
use Rattle.runs.proofs.SameNodes.{same_node_is}
use Rattle.safety_frame.proofs.NodeKinds.{Kind}
use Rattle.safety_frame.proofs.Pasts.{of_sequencer}
use Rattle.safety_agreement.proofs.Mirrors.{IsSaid}
use Rattle.safety_agreement.proofs.Midways.{at_end}

-- ---- names

pub on_kind : {Q : Type 0} (node : NodeId) → (IsTrue (is_sequencer node) → Q) → (IsTrue (is_replica node) → is_sequencer node ≡ false → Q)
    → (IsTrue (is_client node) → is_sequencer node ≡ false → Q) → (IsTrue (is_consumer node) → is_sequencer node ≡ false → Q) → Q
on_kind (nodes.Seq n) a b c d = a refl
on_kind (nodes.Shard n side) a b c d = b refl refl
on_kind (nodes.Client n) a b c d = c refl refl
on_kind (nodes.Consumer n) a b c d = d refl refl

pub seq_differs : (node : NodeId) (number : ℕ) → is_sequencer node ≡ false → same_node node (nodes.Seq number) ≡ false
seq_differs node number other =
    false_from_ne_true (same_node node (nodes.Seq number)) (λ same. false≢true (sym other ∙ ap is_sequencer (same_node_is node (nodes.Seq number) same)))

pub number_differs : (node : NodeId) (number : ℕ) → IsTrue (is_sequencer node) → same_node node (nodes.Seq number) ≡ false → number ≡ number_of node → ⊥
number_differs node number one =
    of_sequencer (λ node. same_node node (nodes.Seq number) ≡ false → number ≡ number_of node → ⊥)
    (λ k other equal. false≢true (sym other ∙ eq-eqb k number (sym equal))) node one

-- ---- what other kinds of node send and know

-- it says nothing of slots
pub others_say : (slot : ℕ) (state : SlotState Entry) (from to : NodeId) (what : What) → is_sequencer from ≡ false → goes_between what from to ≡ true
    → IsSaid slot state.sent from what
others_say slot state from to (whats.Prepare at ballot) other goes =
    absurd (false≢true (sym other ∙ (and_parts (is_sequencer from) (is_sequencer to) goes).0))
others_say slot state from to (whats.Promise at ballot report) other goes =
    absurd (false≢true (sym other ∙ (and_parts (is_sequencer from) (is_sequencer to) goes).0))
others_say slot state from to (whats.Accept at ballot entry) other goes =
    absurd (false≢true (sym other ∙ (and_parts (is_sequencer from) (is_sequencer to) goes).0))
others_say slot state from to (whats.Accepted at ballot) other goes =
    absurd (false≢true (sym other ∙ (and_parts (is_sequencer from) (is_sequencer to) goes).0))
others_say slot state from to _ other goes = tt

-- an entry that a node learns was told
pub told_stays : {S : Type 0} (k : Kind S) (n : Node S) (event : Event) (slot : ℕ) (C : Entry → Type 0)
    → ((s : Node S) (entry : Entry) → k.places.Learns n event s entry → IsTold n event s entry)
    → ((from : NodeId) (at count : ℕ) (entry : Entry) → Comes n event from (whats.Decided at count entry) → at ≡ slot → C entry)
    → ((entry : Entry) → slice_get n.base.known slot ≡ Some entry → C entry)
    → (entry : Entry) → slice_get (k.step n event).state.base.known slot ≡ Some entry → C entry
told_stays {S} k n event slot C is_told decided known =
    k.walk _ n event
    (unshown_sites (λ (t : Turn S). (entry : Entry) → slice_get t.state.base.known slot ≡ Some entry → C entry)
    (record {
      starts = known;
      restarts = λ e entry at. known entry (sym (ap (λ b. slice_get b.known slot) (k.resets n)) ∙ at);
      learns = λ t entry why w more at. elim (at_end t.state.base.known entry more slot at) [
        | inl before ↦ w more before
        | inr last ↦
            let is = is_told t.state entry why in
            subst C last.1 (decided is.from (length t.state.base.known) is.count entry is.comes last.0)
      ];
      stores = λ t item own why w. w;
      changes = λ t own why w. w;
    }))
