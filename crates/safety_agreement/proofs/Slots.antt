-- A slot of a past as a sound state of the machine of one slot, and that one more entry leaves it one.
use Rattle.std.proofs.Common.{◌≡◌, ◌∙◌, ℕ, ◌<◌, false, List, ◌∷◌, ◌++◌, Contains, Some, inl, inr, refl, sym, ap, subst}
use Rattle.std.specs.Prelude.{IsTrue}
use Rattle.std.specs.List.{AllByRecursion, slice_get}
use Rattle.std.proofs.lemmas.List.Elements.{Contains-append_cases, Contains-append_right}
use Rattle.majority.specs.Votes.{IsChosenByVotes}
use Rattle.majority.specs.Slot.{SlotState}
use Rattle.majority.specs.Agreement.{IsSound}
use Rattle.msg_wire.specs.Nodes.{number_of, is_sequencer, same_node}
use Rattle.msg_wire.specs.Valid.{IsValidConfig}
use Rattle.net_model.specs.Pasts.{Past, sent}
use Rattle.node_rules.specs.Names.{Message, Event}
use Rattle.seq_node.specs.Messages.{IsTrueOf}
use Rattle.node_rules.specs.Nodes.{Node}
use Rattle.node_rules.proofs.Places.{Comes, IsTold}
use Rattle.runs.specs.Names.{NodeId, Config, Entry, Item, Step, HistoryEntry}
use Rattle.runs.specs.Names.nodes
use Rattle.runs.specs.Names.whats
use Rattle.runs.specs.Kinds.{sequencer_after, items_at, step_at}
use Rattle.runs.specs.Known.{known_at}
use Rattle.runs.specs.Marks.{known_by}
use Rattle.runs.specs.Runs.{IsPastOf}
use Rattle.runs.proofs.SameNodes.{same_node_is, node_itself}
use Rattle.safety_frame.proofs.NodeKinds.{Kind, after, stored, sequencers, replicas, clients, consumers}
use Rattle.safety_frame.proofs.Names.{states_named}
use Rattle.safety_frame.proofs.SoundStates.{states_are}
use Rattle.safety_frame.proofs.Pasts.{by_kind, own_state, own_items, other_state, other_items, other_stored, on_own, of_sequencer}
use Rattle.safety_frame.proofs.Lists.{each_member}
use Rattle.safety_frame.proofs.Senders.{sends_from}
use Rattle.safety_frame.proofs.Parts.{IsByItems, adds}
use Rattle.safety_frame.proofs.StableItems.{known_is}
use Rattle.safety_frame.proofs.StableParts.{sequencer_known}
use Rattle.safety_frame.proofs.Heeding.{messages_are_heeded}
use Rattle.safety_agreement.proofs.Standing.{WasSent, was_sent}
use Rattle.safety_agreement.proofs.Decideds.{decideds_are_known}
use Rattle.safety_agreement.proofs.OwnedSteps.{number_below}
use Rattle.safety_agreement.proofs.Mirrors.{IsSaid, said_still, Mirrors, Moves, moves_none, other_mirrors}
use Rattle.safety_agreement.proofs.Midways.{chosen_on, Given, Midway}
use Rattle.safety_agreement.proofs.Stepping.{step_mid}
use Rattle.safety_agreement.proofs.OtherKinds.{seq_differs, number_differs, others_say, told_stays}

-- a state of the machine is a slot of the past
pub record IsSlotOf (cfg : Config) (past : Past) (slot : ℕ) (state : SlotState Entry) : Type 0 where
  pub sound : IsSound cfg.seqs state
  pub mirrors : (number : ℕ) → number < cfg.seqs → Mirrors slot number state (sequencer_after cfg number past).own (items_at cfg (nodes.Seq number) past)
  pub said : (m : Message) → Contains (sent past) m → IsSaid slot state.sent m.from m.what
  pub known : (node : NodeId) (entry : Entry) → slice_get (known_at cfg node past) slot ≡ Some entry → IsChosenByVotes cfg.seqs state.votes entry

abbrev pub SlotOf : Config → ℕ → Past → Type 0
SlotOf cfg slot past = (state : SlotState Entry) × IsSlotOf cfg past slot state

module _ (cfg : Config) (valid : IsValidConfig cfg) (slot : ℕ) (e : HistoryEntry) (past : Past) (run : IsPastOf cfg (e ∷ past)) where
  abbrev now : Past
  now = e ∷ past

  -- what an entry sends is from its node
  speaks : AllByRecursion (λ (m : Message). m.from ≡ e.node) e.sends
  speaks =
      let All : Step → Type 0 = λ step. AllByRecursion (λ (m : Message). m.from ≡ e.node) step.sends in
      subst (AllByRecursion (λ (m : Message). m.from ≡ e.node)) (sym run.0.sends)
      (by_kind All cfg past e.event e.node (sends_from cfg valid sequencers e past run) (sends_from cfg valid replicas e past run)
      (sends_from cfg valid clients e past run) (sends_from cfg valid consumers e past run))

  -- ---- what a node knows, by its state

  module _ {S : Type 0} (k : Kind S) (is : IsByItems k (λ s. s.base.known) (adds known_by)) (one : k.IsOne e.node)
      (same : (p : Past) → items_at cfg e.node p ≡ stored k cfg e.node p) where
    pub knew : (after k cfg e.node past).base.known ≡ known_at cfg e.node past
    knew = known_is k is cfg valid past run.1 e.node one run.0.within ∙ sym (ap known_by (same past))

    pub knows : (k.step (after k cfg e.node past) e.event).state.base.known ≡ known_at cfg e.node now
    knows =
        ap (λ s. s.base.known) (sym (own_state k cfg e.node e past valid run (node_itself e.node)))
        ∙ (known_is k is cfg valid now run e.node one run.0.within ∙ sym (ap known_by (same now)))

  -- a told entry is known where it was told
  pub decided_there : {S : Type 0} (n : Node S) (from : NodeId) (at count : ℕ) (entry : Entry) → Comes n e.event from (whats.Decided at count entry)
      → at ≡ slot → (node : NodeId) × (slice_get (known_at cfg node past) slot ≡ Some entry)
  decided_there n from at count entry comes here =
      let was : WasSent past from (whats.Decided at count entry) = was_sent n e.event from (whats.Decided at count entry) past e.node comes run.0.comes in
      let teller = was.message.from in
      let is = subst (IsTrueOf (known_at cfg teller past)) was.says (decideds_are_known cfg past valid run.1 was.message was.there) in
      (teller, ap (slice_get (known_at cfg teller past)) (sym here) ∙ is.2)

  module _ (before : SlotOf cfg slot past) where
    -- a told entry is chosen
    decided_now : {S : Type 0} (n : Node S) (from : NodeId) (at count : ℕ) (entry : Entry) → Comes n e.event from (whats.Decided at count entry) → at ≡ slot
        → IsChosenByVotes cfg.seqs before.0.votes entry
    decided_now n from at count entry comes here =
        let there = decided_there n from at count entry comes here in
        before.1.known there.0 entry there.1

    -- the state that follows, where what the entry's node knows and what it sent is so
    slot_then : (state : SlotState Entry) → Moves (number_of e.node) before.0 state → IsSound cfg.seqs state
        → ((number : ℕ) → number < cfg.seqs → Mirrors slot number state (sequencer_after cfg number now).own (items_at cfg (nodes.Seq number) now))
        → ((m : Message) → Contains e.sends m → IsSaid slot state.sent m.from m.what)
        → ((entry : Entry) → slice_get (known_at cfg e.node now) slot ≡ Some entry → IsChosenByVotes cfg.seqs state.votes entry) → SlotOf cfg slot now
    slot_then state moves sound mirrors said known = (
      state,
      record {
        sound = sound;
        mirrors = mirrors;
        said = λ m there. elim (Contains-append_cases (sent past) e.sends m there) [
          | inl old ↦ said_still slot before.0.sent state.sent moves.sent m.from m.what (before.1.said m old)
          | inr new ↦ said m new
        ];
        known = λ node entry at. on_own (same_node e.node node)
            (λ own. known entry (ap (λ (x : NodeId). slice_get (known_at cfg x now) slot) (same_node_is e.node node own) ∙ at))
            (λ other. chosen_on cfg.seqs (number_of e.node) before.0 state entry moves
            (before.1.known node entry (sym (ap (λ l. slice_get (known_by l) slot) (other_stored cfg node e past other)) ∙ at)));
      },
    )

    -- ---- another kind of node

    unmoved : (number : ℕ) → same_node e.node (nodes.Seq number) ≡ false → number < cfg.seqs
        → Mirrors slot number before.0 (sequencer_after cfg number now).own (items_at cfg (nodes.Seq number) now)
    unmoved number other here =
        subst (λ (l : List Item). Mirrors slot number before.0 (sequencer_after cfg number now).own l)
        (sym (other_items sequencers cfg (nodes.Seq number) e past other))
        (subst (λ s. Mirrors slot number before.0 s.own (items_at cfg (nodes.Seq number) past))
        (sym (other_state sequencers cfg (nodes.Seq number) e past other)) (before.1.mirrors number here))

    pub other_kind : {S : Type 0} (k : Kind S) → IsByItems k (λ s. s.base.known) (adds known_by) → k.IsOne e.node → is_sequencer e.node ≡ false
        → ((p : Past) → items_at cfg e.node p ≡ stored k cfg e.node p)
        → ((n : Node S) (event : Event) (s : Node S) (entry : Entry) → k.places.Learns n event s entry → IsTold n event s entry) → SlotOf cfg slot now
    other_kind k is one no_sequencer same is_told =
        let n = after k cfg e.node past in
        slot_then before.0 (moves_none (number_of e.node) before.0) before.1.sound
        (λ number here. unmoved number (seq_differs e.node number no_sequencer) here)
        (λ m there.
        let goes = ((messages_are_heeded cfg now valid run).messages m (Contains-append_right (sent past) e.sends m there)).between in
        others_say slot before.0 m.from m.to m.what
        (ap is_sequencer (each_member (λ (x : Message). x.from ≡ e.node) e.sends m speaks there) ∙ no_sequencer) goes)
        (λ entry at.
        told_stays k n e.event slot (IsChosenByVotes cfg.seqs before.0.votes) (is_told n e.event)
        (λ from at count more comes here. decided_now n from at count more comes here)
        (λ more was. before.1.known e.node more (sym (ap (λ l. slice_get l slot) (knew k is one same)) ∙ was)) entry
        (ap (λ l. slice_get l slot) (knows k is one same) ∙ at))

    -- ---- a sequencer

    pub sequencer_kind : IsTrue (is_sequencer e.node) → SlotOf cfg slot now
    sequencer_kind one =
        let n = after sequencers cfg e.node past in
        let earlier = stored sequencers cfg e.node past in
        let i = number_of e.node in
        let here = number_below cfg e.node run.0.within one in
        let same = of_sequencer (λ node. (p : Past) → items_at cfg node p ≡ stored sequencers cfg node p) (λ number p. refl) e.node one in
        let given : Given cfg slot e.node before.0 earlier n e.event = record {
          within = here;
          sound = before.1.sound;
          mirrors = own_before one here;
          named = states_named sequencers cfg valid past run.1 e.node one run.0.within;
          is = states_are sequencers cfg valid past run.1 e.node one run.0.within;
          valid = run.0.valid;
          told = λ from what comes.
              let was : WasSent past from what = was_sent n e.event from what past e.node comes run.0.comes in
              subst (λ w. IsSaid slot before.0.sent from w) was.says
              (subst (λ f. IsSaid slot before.0.sent f was.message.what) was.by (before.1.said was.message was.there));
          decided = decided_now n;
          known = λ entry at. before.1.known e.node entry (sym (ap (λ l. slice_get l slot) (knew sequencers sequencer_known one same)) ∙ at);
        } in
        let mid : Midway cfg slot e.node before.0 earlier (sequencers.step n e.event) = step_mid cfg slot e.node before.0 earlier n e.event given in
        slot_then mid.state mid.moves mid.sound
        (λ number low. own_or_other number mid.state mid.moves low one mid.mirrors)
        (λ m there.
        subst (λ f. IsSaid slot mid.state.sent f m.what) (sym (each_member (λ (x : Message). x.from ≡ e.node) e.sends m speaks there))
        (each_member (λ (x : Message). IsSaid slot mid.state.sent e.node x.what) (sequencers.step n e.event).sends m mid.said
        (subst (λ l. Contains l m) (run.0.sends ∙ sends_same one) there)))
        (λ entry at. mid.known entry (ap (λ l. slice_get l slot) (knows sequencers sequencer_known one same) ∙ at))
      where
        own_before : (one : IsTrue (is_sequencer e.node)) → number_of e.node < cfg.seqs
            → Mirrors slot (number_of e.node) before.0 (after sequencers cfg e.node past).own (stored sequencers cfg e.node past)
        own_before one here =
            of_sequencer (λ node. number_of node < cfg.seqs → Mirrors slot (number_of node) before.0 (after sequencers cfg node past).own
            (stored sequencers cfg node past))
            (λ number low. before.1.mirrors number low) e.node one here

        sends_same : (one : IsTrue (is_sequencer e.node)) → (step_at cfg e.node past e.event).sends ≡ (sequencers.step
            (after sequencers cfg e.node past) e.event).sends
        sends_same one =
            of_sequencer (λ node. (step_at cfg node past e.event).sends ≡ (sequencers.step (after sequencers cfg node past) e.event).sends)
            (λ number. refl) e.node one

        own_now : (state : SlotState Entry) (one : IsTrue (is_sequencer e.node))
            → Mirrors slot (number_of e.node) state (sequencers.step (after sequencers cfg e.node past) e.event).state.own
            (stored sequencers cfg e.node past ++ (sequencers.step (after sequencers cfg e.node past) e.event).stable)
            → Mirrors slot (number_of e.node) state (after sequencers cfg e.node now).own (stored sequencers cfg e.node now)
        own_now state one is =
            subst (λ l. Mirrors slot (number_of e.node) state (after sequencers cfg e.node now).own l) (sym (own_items sequencers cfg e.node e past
            (node_itself e.node)))
            (subst (λ s. Mirrors slot (number_of e.node) state s.own (stored sequencers cfg e.node past ++ (sequencers.step
            (after sequencers cfg e.node past) e.event).stable))
            (sym (own_state sequencers cfg e.node e past valid run (node_itself e.node))) is)

        own_or_other : (number : ℕ) (state : SlotState Entry) → Moves (number_of e.node) before.0 state → number < cfg.seqs → (one : IsTrue
            (is_sequencer e.node))
            → Mirrors slot (number_of e.node) state (sequencers.step (after sequencers cfg e.node past) e.event).state.own
            (stored sequencers cfg e.node past ++ (sequencers.step (after sequencers cfg e.node past) e.event).stable)
            → Mirrors slot number state (sequencer_after cfg number now).own (items_at cfg (nodes.Seq number) now)
        own_or_other number state moves low one is =
            on_own (same_node e.node (nodes.Seq number))
            (λ own. subst (λ (node : NodeId). Mirrors slot (number_of node) state (after sequencers cfg node now).own (stored sequencers cfg node now))
            (same_node_is e.node (nodes.Seq number) own) (own_now state one is))
            (λ other. other_mirrors slot (number_of e.node) number before.0 state (sequencer_after cfg number now).own (items_at cfg
            (nodes.Seq number) now) moves
            (λ equal. number_differs e.node number one other equal) (unmoved number other low))
