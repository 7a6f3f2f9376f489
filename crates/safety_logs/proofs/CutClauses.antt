-- Of every run: a cut that is wished or voted for is good at its slot.
use Rattle.std.proofs.Common.{◌≡◌, ℕ, ◌<◌, List, ◌∷◌, Contains, Option, Some, None, refl, sym, subst}
use Rattle.std.specs.Prelude.{IsTrue}
use Rattle.msg_wire.specs.Nodes.{is_sequencer}
use Rattle.msg_wire.specs.Valid.{IsValidConfig, IsNodeOf}
use Rattle.net_model.specs.Pasts.{Past, sent}
use Rattle.node_rules.specs.Nodes.{Node}
use Rattle.seq_node.specs.States.{SlotAttempt, acceptor_at}
use Rattle.runs.specs.Names.{NodeId, Config, Entry, Item, HistoryEntry}
use Rattle.runs.specs.Names.nodes
use Rattle.runs.specs.Names.items
use Rattle.runs.specs.Runs.{IsPastOf}
use Rattle.runs.specs.Kinds.{items_at}
use Rattle.runs.specs.Marks.{IsPrefix}
use Rattle.runs.proofs.SameNodes.{node_itself}
use Rattle.safety_frame.specs.AgreedList.{agreed_list}
use Rattle.safety_frame.specs.EveryRun.{OfEveryRun}
use Rattle.safety_frame.proofs.Clauses.{ItemsKeep, each_item}
use Rattle.safety_frame.proofs.Gathered.{item_stored}
use Rattle.safety_frame.proofs.Names.{states_named}
use Rattle.safety_frame.proofs.NodeKinds.{after, sequencers, replicas, clients, consumers}
use Rattle.safety_frame.proofs.Pasts.{own_state, of_sequencer}
use Rattle.safety_frame.proofs.StableItems.{known_is}
use Rattle.safety_frame.proofs.StableParts.{sequencer_known}
use Rattle.majority.specs.Agreement.{ReportedBy}
use Rattle.safety_agreement.specs.Heard.{IsPromised}
use Rattle.safety_agreement.specs.Acceptors.{IsLast}
use Rattle.safety_agreement.proofs.Acceptors.{acceptor_is_items}
use Rattle.safety_agreement.proofs.Heard.{promises_were_sent}
use Rattle.safety_agreement.proofs.Promises.{promises_tell}
use Rattle.safety_logs.specs.Cuts.{IsGoodItem, CutsAreGood}
use Rattle.safety_logs.proofs.AgreedLists.{sequencer_begins}
use Rattle.safety_logs.proofs.GoodCuts.{good_on, good_wishes}
use Rattle.safety_logs.proofs.Goodness.{MayBeGood, AttemptIsGood, AcceptorsAreGood}
use Rattle.safety_logs.proofs.GoodVotes.{told_good, step_good}
use Rattle.safety_logs.proofs.NoVotes.{IsNoVote, no_votes, by_replicas, by_clients, by_consumers}
use Rattle.safety_logs.proofs.Reports.{kept_reports}

-- what is no vote is good
no_vote_good : (cfg : Config) (past : Past) (item : Item) → IsNoVote item → IsGoodItem cfg past item
no_vote_good cfg past (items.Accepted slot ballot entry) is = absurd is
no_vote_good cfg past _ is = tt

-- ---- sequencers

module _ (cfg : Config) (valid : IsValidConfig cfg) where
  -- of each item, by the past
  abbrev Good : Past → NodeId → Item → Type 0
  Good past node item = IsGoodItem cfg past item

  stays_good : (e : HistoryEntry) (past : Past) (item : Item) → IsPastOf cfg (e ∷ past) → IsGoodItem cfg past item → IsGoodItem cfg (e ∷ past) item
  stays_good e past (items.Accepted slot ballot entry) run is = good_on cfg valid e past run slot entry is
  stays_good e past _ run is = tt

  module _ (e : HistoryEntry) (past : Past) (run : IsPastOf cfg (e ∷ past))
      (before : (node : NodeId) (item : Item) → Contains (items_at cfg node past) item → IsGoodItem cfg past item) where
    abbrev now : Past
    now = e ∷ past

    was_told : (node : NodeId) (slot ballot : ℕ) (promises : List ℕ) (report : Option (ℕ × Entry))
        → ReportedBy (IsPromised (sent past) node slot ballot) promises report
        → MayBeGood cfg now slot report
    was_told node slot ballot promises None reported = tt
    was_told node slot ballot promises (Some report) reported =
        let m : IsPromised (sent past) node slot ballot reported.0 (Some report) = reported.2 in
        told_good cfg valid e past run before slot ballot _ (Some report)
        (promises_tell cfg past valid run.1 m.0 slot ballot (Some report) m.1 m.4).tells

    attempt_good : (number : ℕ) → number < cfg.seqs → (o : Option SlotAttempt) → (after sequencers cfg (nodes.Seq number) past).own.attempt ≡ o
        → AttemptIsGood cfg now o
    attempt_good number here None stands = tt
    attempt_good number here (Some a) stands = (
      good_on cfg valid e past run a.slot a.attempt.wish (good_wishes cfg past valid run.1 number a here stands),
      was_told (nodes.Seq number) a.slot a.attempt.ballot a.attempt.promises a.attempt.reported (promises_were_sent cfg past valid run.1 number a here stands).reported,
    )

    last_good : (number slot : ℕ) (vote : Option (ℕ × Entry)) → IsLast slot (items_at cfg (nodes.Seq number) past) vote → MayBeGood cfg now slot vote
    last_good number slot None last = tt
    last_good number slot (Some vote) last = good_on cfg valid e past run slot vote.1 (before (nodes.Seq number) (items.Accepted slot vote.0 vote.1) last.0)

    pub own_attempt_good : (node : NodeId) → IsTrue (is_sequencer node) → IsNodeOf cfg node → AttemptIsGood cfg now (after sequencers cfg node past).own.attempt
    own_attempt_good node one =
        of_sequencer (λ x. IsNodeOf cfg x → AttemptIsGood cfg now (after sequencers cfg x past).own.attempt)
        (λ number here. attempt_good number here (after sequencers cfg (nodes.Seq number) past).own.attempt refl) node one

    pub own_acceptors_good : (node : NodeId) → IsTrue (is_sequencer node) → IsNodeOf cfg node → AcceptorsAreGood cfg now (after sequencers cfg node past).own
    own_acceptors_good node one =
        of_sequencer (λ x. IsNodeOf cfg x → AcceptorsAreGood cfg now (after sequencers cfg x past).own)
        (λ number here slot.
        last_good number slot (acceptor_at (after sequencers cfg (nodes.Seq number) past).own slot).accepted
        (acceptor_is_items cfg past valid run.1 slot number here).last) node one

    known_begins : (node : NodeId) → IsTrue (is_sequencer node) → IsNodeOf cfg node
        → IsPrefix (after sequencers cfg node now).base.known (agreed_list cfg now)
    known_begins node one =
        of_sequencer (λ x. IsNodeOf cfg x → IsPrefix (after sequencers cfg x now).base.known (agreed_list cfg now))
        (λ number here.
        subst (λ l. IsPrefix l (agreed_list cfg now)) (sym (known_is sequencers sequencer_known cfg valid now run (nodes.Seq number) refl here))
        (sequencer_begins cfg valid now run number)) node one

    pub step_begins : IsTrue (is_sequencer e.node)
        → IsPrefix (sequencers.step (after sequencers cfg e.node past) e.event).state.base.known (agreed_list cfg now)
    step_begins one =
        subst (λ (s : Node _). IsPrefix s.base.known (agreed_list cfg now)) (own_state sequencers cfg e.node e past valid run (node_itself e.node))
        (known_begins e.node one run.0.within)

  sequencers_good : ItemsKeep cfg valid sequencers Good
  sequencers_good e past run one before =
      let was : (node : NodeId) (item : Item) → Contains (items_at cfg node past) item → IsGoodItem cfg past item =
      λ node item there. before (record { node = node; item = item }) (item_stored cfg node item past there) in
      let named = states_named sequencers cfg valid past run.1 e.node one run.0.within in
      step_good cfg valid e past run was named.0 (kept_reports cfg valid past run.1 e.node one run.0.within)
      (own_attempt_good e past run was e.node one run.0.within) (own_acceptors_good e past run was e.node one run.0.within) (step_begins e past run was one)

  pub good_items : (past : Past) → IsPastOf cfg past → (node : NodeId) (item : Item) → Contains (items_at cfg node past) item → IsGoodItem cfg past item
  good_items =
      each_item cfg valid Good
      (record {
        stays = λ e past node item run there was. stays_good e past item run was;
        at_sequencers = sequencers_good;
        at_replicas = λ e past run one before.
            no_votes replicas by_replicas (IsGoodItem cfg (e ∷ past)) (no_vote_good cfg (e ∷ past)) (after replicas cfg e.node past) e.event;
        at_clients = λ e past run one before.
            no_votes clients by_clients (IsGoodItem cfg (e ∷ past)) (no_vote_good cfg (e ∷ past)) (after clients cfg e.node past) e.event;
        at_consumers = λ e past run one before.
            no_votes consumers by_consumers (IsGoodItem cfg (e ∷ past)) (no_vote_good cfg (e ∷ past)) (after consumers cfg e.node past) e.event;
      })

pub cuts_are_good : OfEveryRun CutsAreGood
cuts_are_good cfg past valid run = record { wishes = good_wishes cfg past valid run; accepted = good_items cfg valid past run }
