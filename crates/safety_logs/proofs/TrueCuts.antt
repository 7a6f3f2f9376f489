-- Of every run: an accepted cut is true, judged before it is accepted: what it stands on is chosen by then, since a step begins once and last.
use Rattle.std.proofs.Common.{◌≡◌, ◌∙◌, ℕ, ◌%◌, ◌<◌, ◌≤◌, false, List, [], ◌∷◌, length, take, Contains, Some, inl, inr, refl, sym, ap, subst, arith}
use Rattle.std.specs.Prelude.{IsTrue}
use Rattle.std.specs.List.{AllByRecursion, slice_get}
use Rattle.std.proofs.lemmas.List.{length-take-le}
use Rattle.std.proofs.lemmas.List.Elements.{Contains-append_right}
use Rattle.std.proofs.lemmas.Option.{slice_get_within}
use Rattle.fix_ante.specs.declared.spots.Spot.{Spot}
use Rattle.cut_core.specs.Agreements.{Agreement}
use Rattle.fix_ante.specs.Windows.{round_end}
use Rattle.msg_wire.specs.Nodes.{is_sequencer, same_node}
use Rattle.msg_wire.specs.Valid.{IsValidConfig, IsNodeOf}
use Rattle.net_model.specs.Pasts.{Past}
use Rattle.node_rules.specs.Nodes.{Node}
use Rattle.node_rules.proofs.Lists.{all_weaken}
use Rattle.node_rules.proofs.Places.{Comes}
use Rattle.seq_node.specs.States.{SlotAttempt, SequencerState}
use Rattle.runs.specs.Names.{NodeId, Side, Config, Entry, Item, HistoryEntry}
use Rattle.runs.specs.Names.nodes
use Rattle.runs.specs.Names.sides
use Rattle.runs.specs.Names.entries
use Rattle.runs.specs.Names.items
use Rattle.runs.specs.Names.whats
use Rattle.runs.specs.Runs.{IsPastOf}
use Rattle.runs.specs.Kinds.{items_at, step_at}
use Rattle.runs.specs.Known.{known_at, agreed_after, log_at}
use Rattle.runs.specs.Marks.{log_by}
use Rattle.runs.specs.Chosen.{AreChosen}
use Rattle.runs.specs.Logs.{BackupIsAPrefix}
use Rattle.runs.specs.Cuts.{HoldRound, IsTrueCut, IsTrueAcceptance, CutsAreTrue}
use Rattle.runs.proofs.SameNodes.{node_itself}
use Rattle.safety_frame.specs.AgreedList.{agreed_list}
use Rattle.safety_frame.specs.EveryRun.{OfEveryRun}
use Rattle.safety_frame.proofs.Lists.{each_member, from_members, index_stays}
use Rattle.safety_frame.proofs.NodeKinds.{after, sequencers, replicas, clients, consumers}
use Rattle.safety_frame.proofs.Pasts.{by_kind, own_stored, other_stored, of_sequencer}
use Rattle.safety_agreement.proofs.NextSlots.{attempts_are_of_the_next_slot}
use Rattle.safety_agreement.proofs.Votes.{owners_voted}
use Rattle.safety_logs.specs.Counting.{counted}
use Rattle.safety_logs.specs.Cuts.{IsGoodAfter, IsGoodAt, IsGoodItem}
use Rattle.safety_logs.proofs.AgreedLists.{same_take, agreed_chosen}
use Rattle.safety_logs.proofs.Backups.{backup_is_a_prefix}
use Rattle.safety_logs.proofs.Beginning.{IsVoteAt, begins_once}
use Rattle.safety_logs.proofs.ChosenBefore.{steps_as, known_first, chosen_then}
use Rattle.safety_logs.proofs.Coming.{was_sent}
use Rattle.safety_logs.proofs.CutClauses.{good_items}
use Rattle.safety_logs.proofs.Fronts.{front_of}
use Rattle.safety_logs.proofs.NoVotes.{IsNoVote, no_votes, by_replicas, by_clients, by_consumers}

-- ---- a good cut after chosen entries is true

module _ (cfg : Config) (past : Past) (prefix : BackupIsAPrefix cfg past) where
  held_round : (agreed : Agreement) (round : ℕ) (row : Spot) → round_end row round ≤ counted cfg agreed row.shard past → HoldRound cfg past round row
  held_round agreed round row within = record {
    primary = omega (arith, within);
    backup = omega (arith, within);
    agree =
        same_take (round_end row round) (log_at cfg row.shard sides.Backup past) (log_at cfg row.shard sides.Primary past) (prefix row.shard)
        (omega (arith, within));
  }

  true_cut : (chosen : List Entry) (slot : ℕ) (entry : Entry) → length chosen ≡ slot → AreChosen cfg past chosen → IsGoodAfter cfg past chosen entry
      → IsTrueCut cfg past slot entry
  true_cut chosen slot (entries.Cut window round) below there good = (
    chosen,
    record {
      below = below;
      chosen_there = there;
      fits = good.0;
      covered =
          all_weaken (λ (row : Spot). round_end row round ≤ counted cfg (agreed_after cfg chosen) row.shard past) (HoldRound cfg past round)
          (agreed_after cfg chosen).current.spots (held_round (agreed_after cfg chosen) round) good.1;
    },
  )
  true_cut chosen slot entries.Nothing below there good = tt
  true_cut chosen slot (entries.Table after rounds rows) below there good = tt
  true_cut chosen slot (entries.Remove window shard) below there good = tt

taken_within : {A : Type 0} (slot : ℕ) (xs : List A) (k : ℕ) (x : A) → slot ≤ length xs → slice_get (take slot xs) k ≡ Some x
    → (k < slot) × (slice_get xs k ≡ Some x)
taken_within slot xs k x within at = (
  omega (arith, slice_get_within (take slot xs) k x at, length-take-le slot xs within),
  index_stays (take slot xs) xs k x (front_of slot xs) at,
)

module _ (cfg : Config) (valid : IsValidConfig cfg) (e : HistoryEntry) (past : Past) (run : IsPastOf cfg (e ∷ past)) where
  abbrev now : Past
  now = e ∷ past

  -- what was good before an entry
  good_before : (slot : ℕ) (entry : Entry) → IsGoodAt cfg past slot entry → IsTrueCut cfg past slot entry
  good_before slot entry is =
      let agreed : List Entry = agreed_list cfg past in
      true_cut cfg past (backup_is_a_prefix cfg past valid run.1) (take slot agreed) slot entry (length-take-le slot agreed is.agreed)
      (λ k v at. agreed_chosen cfg valid past run.1 k v (taken_within slot agreed k v is.agreed at).1) is.good

  module _ (one : IsTrue (is_sequencer e.node)) where
    abbrev n : Node SequencerState
    n = after sequencers cfg e.node past

    -- ---- logs stay

    same_log : (agreed : Agreement) (shard : ℕ) → counted cfg agreed shard now ≡ counted cfg agreed shard past
    same_log agreed shard =
        let primary : log_at cfg shard sides.Primary now ≡ log_at cfg shard sides.Primary past =
        ap log_by (other_stored cfg (nodes.Shard shard sides.Primary) e past (no_replica shard sides.Primary)) in
        let backup : log_at cfg shard sides.Backup now ≡ log_at cfg shard sides.Backup past =
        ap log_by (other_stored cfg (nodes.Shard shard sides.Backup) e past (no_replica shard sides.Backup)) in
        omega (arith, ap length primary, ap length backup)
      where
        no_replica : (shard : ℕ) (side : Side) → same_node e.node (nodes.Shard shard side) ≡ false
        no_replica shard side = of_sequencer (λ node. same_node node (nodes.Shard shard side) ≡ false) (λ number. refl) e.node one

    good_then : (chosen : List Entry) (entry : Entry) → IsGoodAfter cfg now chosen entry → IsGoodAfter cfg past chosen entry
    good_then chosen (entries.Cut window round) good = (
      good.0,
      all_weaken (λ (row : Spot). round_end row round ≤ counted cfg (agreed_after cfg chosen) row.shard now)
          (λ (row : Spot). round_end row round ≤ counted cfg (agreed_after cfg chosen) row.shard past)
          (agreed_after cfg chosen).current.spots (λ row within. omega (arith, within, same_log (agreed_after cfg chosen) row.shard)) good.1,
    )
    good_then chosen entries.Nothing good = tt
    good_then chosen (entries.Table after rounds rows) good = tt
    good_then chosen (entries.Remove window shard) good = tt

    -- ---- so what the step votes for is true

    asked_true : (from : NodeId) (slot ballot : ℕ) (entry : Entry) → Comes n e.event from (whats.Accept slot ballot entry) → IsTrueCut cfg past slot entry
    asked_true from slot ballot entry comes =
        let was = was_sent n e past from (whats.Accept slot ballot entry) run.0.comes comes in
        good_before slot entry
        (good_items cfg valid past run.1 (nodes.Seq (ballot % cfg.seqs)) (items.Accepted slot ballot entry)
        ((owners_voted cfg past valid run.1).asked was.message slot ballot entry was.there was.says))

    item_true : (next : ℕ) (item : Item) → AllByRecursion (IsVoteAt n e.event next) (sequencers.step n e.event).stable → IsVoteAt n e.event next item
        → IsGoodItem cfg now item → IsTrueAcceptance cfg past item
    item_true next (items.Accepted slot ballot entry) votes is good =
        let agreed : List Entry = agreed_list cfg now in
        elim is [
          | inl same ↦ true_cut cfg past (backup_is_a_prefix cfg past valid run.1) (take slot agreed) slot entry (length-take-le slot agreed good.agreed)
              (λ k v at.
              let there = taken_within slot agreed k v good.agreed at in
              chosen_then cfg valid e past run one next k v votes (omega (arith, there.0, same)) there.1)
              (good_then (take slot agreed) entry good.good)
          | inr asked ↦ asked_true asked.1.0 slot ballot entry asked.1.1
        ]
    item_true next _ votes is good = tt

    next_is : (a : SlotAttempt) → n.own.attempt ≡ Some a → a.slot ≡ length n.base.known
    next_is a stands =
        of_sequencer (λ node. IsNodeOf cfg node → (after sequencers cfg node past).own.attempt ≡ Some a → a.slot ≡ length (known_at cfg node past))
        (λ number here stands_there. attempts_are_of_the_next_slot cfg past valid run.1 number a here stands_there) e.node one run.0.within stands
        ∙ ap length (sym (known_first cfg valid e past run one))

    step_true : AllByRecursion (IsTrueAcceptance cfg past) (sequencers.step n e.event).stable
    step_true =
        let once = begins_once n e.event next_is in
        let made : List Item = (sequencers.step n e.event).stable in
        from_members (IsTrueAcceptance cfg past) made
        (λ item there.
        item_true once.0 item once.2 (each_member (IsVoteAt n e.event once.0) made item once.2 there)
        (good_items cfg valid now run e.node item
        (subst (λ l. Contains l item) (sym (own_stored cfg e.node e past (node_itself e.node)))
        (Contains-append_right (items_at cfg e.node past) (step_at cfg e.node past e.event).stable item
        (subst (λ l. Contains l item) (sym (steps_as cfg valid e past run one)) there)))))

  no_vote_true : (item : Item) → IsNoVote item → IsTrueAcceptance cfg past item
  no_vote_true (items.Accepted slot ballot entry) is = absurd is
  no_vote_true _ is = tt

  pub entry_true : AllByRecursion (IsTrueAcceptance cfg past) (step_at cfg e.node past e.event).stable
  entry_true =
      by_kind (λ step. AllByRecursion (IsTrueAcceptance cfg past) step.stable) cfg past e.event e.node (λ one. step_true one)
      (λ one. no_votes replicas by_replicas (IsTrueAcceptance cfg past) no_vote_true (after replicas cfg e.node past) e.event)
      (λ one. no_votes clients by_clients (IsTrueAcceptance cfg past) no_vote_true (after clients cfg e.node past) e.event)
      (λ one. no_votes consumers by_consumers (IsTrueAcceptance cfg past) no_vote_true (after consumers cfg e.node past) e.event)

pub cuts_are_true : OfEveryRun CutsAreTrue
cuts_are_true cfg [] valid run = tt
cuts_are_true cfg (e ∷ past) valid run = (entry_true cfg valid e past run, cuts_are_true cfg past valid run.1)
