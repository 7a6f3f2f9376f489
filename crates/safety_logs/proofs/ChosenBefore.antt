-- What is chosen after a sequencer's step, below the slot at which the step votes, was chosen before it.
use Rattle.std.proofs.Common.{◌≡◌, ◌∙◌, ℕ, ◌<◌, ◌≤◌, ◌∷◌, length, Contains, Some, inl, inr, refl, sym, ap, subst, arith}
use Rattle.std.specs.Prelude.{IsTrue}
use Rattle.std.specs.List.{AllByRecursion, slice_get}
use Rattle.std.proofs.lemmas.Bool.{cases_lt}
use Rattle.std.proofs.lemmas.List.Elements.{All-weaker, Contains-append_cases}
use Rattle.msg_wire.specs.Nodes.{is_sequencer, same_node}
use Rattle.msg_wire.specs.Valid.{IsValidConfig}
use Rattle.net_model.specs.Pasts.{Past}
use Rattle.node_rules.specs.Nodes.{Node}
use Rattle.seq_node.specs.States.{SequencerState}
use Rattle.runs.specs.Names.{NodeId, Config, Entry, Item, HistoryEntry}
use Rattle.runs.specs.Names.nodes
use Rattle.runs.specs.Names.items
use Rattle.runs.specs.Runs.{IsPastOf}
use Rattle.runs.specs.Kinds.{items_at, step_at}
use Rattle.runs.specs.Known.{known_at}
use Rattle.runs.specs.Marks.{IsPrefix, known_by}
use Rattle.runs.specs.Chosen.{HasAccepted, IsChosen}
use Rattle.runs.proofs.SameNodes.{same_node_is}
use Rattle.safety_frame.specs.AgreedList.{agreed_list}
use Rattle.safety_frame.proofs.Lists.{begins_on, each_member}
use Rattle.safety_frame.proofs.NodeKinds.{after, stored, sequencers}
use Rattle.safety_frame.proofs.Pasts.{own_stored, other_stored, on_own, of_sequencer}
use Rattle.safety_frame.proofs.StableItems.{known_is}
use Rattle.safety_frame.proofs.StableParts.{sequencer_known}
use Rattle.safety_agreement.proofs.Chosen.{each_known_is_chosen}
use Rattle.safety_logs.proofs.AgreedLists.{agreed_chosen, agreed_grows, sequencer_begins}
use Rattle.safety_logs.proofs.Beginning.{IsVoteAt}
use Rattle.safety_logs.proofs.Fronts.{index_back}

module _ (cfg : Config) (valid : IsValidConfig cfg) (e : HistoryEntry) (past : Past) (run : IsPastOf cfg (e ∷ past)) (one : IsTrue (is_sequencer e.node)) where
  abbrev now : Past
  now = e ∷ past

  abbrev n : Node SequencerState
  n = after sequencers cfg e.node past

  pub steps_as : (step_at cfg e.node past e.event).stable ≡ (sequencers.step n e.event).stable
  steps_as =
      of_sequencer (λ node. (step_at cfg node past e.event).stable ≡ (sequencers.step (after sequencers cfg node past) e.event).stable)
      (λ number. refl) e.node one

  no_vote : (next k ballot : ℕ) (v : Entry) → length n.base.known ≤ k → k < next → IsVoteAt n e.event next (items.Accepted k ballot v) → ⊥
  no_vote next k ballot v from below is = elim is [
    | inl same ↦ omega (arith, same, below)
    | inr asked ↦ omega (arith, asked.0, from, below)
  ]

  -- a vote of now that isn't of the slot at which the step votes was one before
  voted_then : (next k ballot number : ℕ) (v : Entry) → AllByRecursion (IsVoteAt n e.event next) (sequencers.step n e.event).stable
      → length n.base.known ≤ k → k < next → HasAccepted cfg now k ballot v number → HasAccepted cfg past k ballot v number
  voted_then next k ballot number v votes from below there =
      let voter : NodeId = nodes.Seq number in
      let vote : Item = items.Accepted k ballot v in
      on_own (same_node e.node voter)
      (λ own.
      elim (Contains-append_cases (items_at cfg voter past) (step_at cfg voter past e.event).stable vote
      (subst (λ l. Contains l vote) (own_stored cfg voter e past own) there)) [
        | inl old ↦ old
        | inr new ↦
            let here = same_node_is e.node voter own in
            let made =
            subst (λ l. Contains l vote) steps_as
            (subst (λ (node : NodeId). Contains (step_at cfg node past e.event).stable vote) (sym here) new) in
            absurd (no_vote next k ballot v from below
            (each_member (IsVoteAt n e.event next) (sequencers.step n e.event).stable vote votes made))
      ])
      (λ other. subst (λ l. Contains l vote) (other_stored cfg voter e past other) there)

  pub known_first : n.base.known ≡ known_at cfg e.node past
  known_first =
      known_is sequencers sequencer_known cfg valid past run.1 e.node one run.0.within
      ∙ of_sequencer (λ node. known_by (stored sequencers cfg node past) ≡ known_at cfg node past) (λ number. refl) e.node one

  begins_now : IsPrefix (known_at cfg e.node past) (agreed_list cfg now)
  begins_now =
      of_sequencer (λ node. IsPrefix (known_at cfg node past) (agreed_list cfg now))
      (λ number.
      begins_on (known_at cfg (nodes.Seq number) past) (agreed_list cfg past) (agreed_list cfg now) (sequencer_begins cfg valid past run.1 number)
      (agreed_grows cfg valid e past run)) e.node one

  pub chosen_then : (next k : ℕ) (v : Entry) → AllByRecursion (IsVoteAt n e.event next) (sequencers.step n e.event).stable → k < next
      → slice_get (agreed_list cfg now) k ≡ Some v
      → IsChosen cfg past k v
  chosen_then next k v votes below at =
      elim (cases_lt k (length n.base.known)) [
        | inl early ↦
            each_known_is_chosen cfg past valid run.1 e.node k v
            (index_back (known_at cfg e.node past) (agreed_list cfg now) k v begins_now (omega (arith, early, ap length known_first)) at)
        | inr late ↦
            let chosen = agreed_chosen cfg valid now run k v at in (
              chosen.0,
              chosen.1,
              chosen.2,
              All-weaker (HasAccepted cfg now k chosen.0 v) (HasAccepted cfg past k chosen.0 v)
                  (λ number there. voted_then next k chosen.0 number v votes late below there) chosen.1 chosen.3,
            )
      ]
