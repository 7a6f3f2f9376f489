-- Clauses of what is sent: each message is sent in its sender's own name, so that a clause goes by the kind of its sender.
use Rattle.std.proofs.Common.{◌≡◌, ◌∙◌, List, [], ◌∷◌, Contains, refl, sym, subst}
use Rattle.std.specs.List.{AllByRecursion}
use Rattle.msg_wire.specs.Valid.{IsValidConfig}
use Rattle.net_model.specs.Pasts.{Past, Throughout, sent}
use Rattle.node_rules.proofs.Lists.{all_weaken}
use Rattle.runs.specs.Names.{NodeId, Config, Message, What, Step, HistoryEntry}
use Rattle.runs.specs.Runs.{IsPastOf}
use Rattle.safety_frame.proofs.NodeKinds.{Kind, after, sequencers, replicas, clients, consumers}
use Rattle.safety_frame.proofs.Inductions.{every_member}
use Rattle.safety_frame.proofs.Pasts.{by_kind}
use Rattle.safety_frame.proofs.Names.{step_named, step_speaks, states_named}

-- ---- senders

named_all : (T : NodeId → NodeId → What → Type 0) (node : NodeId) (sends : List Message) → AllByRecursion (λ (m : Message). m.from ≡ node) sends
    → AllByRecursion (λ (m : Message). T node m.to m.what) sends → AllByRecursion (λ (m : Message). T m.from m.to m.what) sends
named_all T node [] from all = tt
named_all T node (m ∷ sends) from all = (subst (λ n. T n m.to m.what) (sym from.0) all.0, named_all T node sends from.1 all.1)

module _ (cfg : Config) (valid : IsValidConfig cfg) where
  pub sends_from : {S : Type 0} (k : Kind S) (e : HistoryEntry) (past : Past) → IsPastOf cfg (e ∷ past) → k.IsOne e.node
      → AllByRecursion (λ (m : Message). m.from ≡ e.node) (k.step (after k cfg e.node past) e.event).sends
  sends_from k e past run one =
      let n = after k cfg e.node past in
      let me = (step_named k n e.event).1 ∙ (states_named k cfg valid past run.1 e.node one run.0.within).1 in
      all_weaken (λ (m : Message). m.from ≡ (k.step n e.event).state.base.me) (λ (m : Message). m.from ≡ e.node) (k.step n e.event).sends (λ m own. own ∙ me)
      (step_speaks k n e.event)

  pub all_from : (past : Past) → IsPastOf cfg past → Throughout (λ past e. AllByRecursion (λ (m : Message). m.from ≡ e.node) e.sends) past
  all_from [] run = tt
  all_from (e ∷ past) run = (
    subst (AllByRecursion (λ (m : Message). m.from ≡ e.node)) (sym run.0.sends)
        (by_kind (λ step. AllByRecursion (λ (m : Message). m.from ≡ e.node) step.sends) cfg past e.event e.node
        (sends_from sequencers e past run) (sends_from replicas e past run) (sends_from clients e past run) (sends_from consumers e past run)),
    all_from past run.1,
  )

  -- ---- clauses by the sender, the receiver and what is told

  abbrev pub OfSent : (Past → NodeId → NodeId → What → Type 0) → Past → Type 0
  OfSent T past = (m : Message) → Contains (sent past) m → T past m.from m.to m.what

  -- what a step of a kind sends keeps it
  abbrev pub SendsKeep : {S : Type 0} → Kind S → (Past → NodeId → NodeId → What → Type 0) → Type 0
  SendsKeep k T =
      (e : HistoryEntry) (past : Past) → IsPastOf cfg (e ∷ past) → k.IsOne e.node → OfSent T past
      → AllByRecursion (λ (m : Message). T (e ∷ past) e.node m.to m.what) (k.step (after k cfg e.node past) e.event).sends

  pub record KeepsSent (T : Past → NodeId → NodeId → What → Type 0) : Type 0 where
    pub stays : (e : HistoryEntry) (past : Past) (m : Message) → IsPastOf cfg (e ∷ past) → Contains (sent past) m → T past m.from m.to m.what
        → T (e ∷ past) m.from m.to m.what
    pub at_sequencers : SendsKeep sequencers T
    pub at_replicas : SendsKeep replicas T
    pub at_clients : SendsKeep clients T
    pub at_consumers : SendsKeep consumers T

  module _ (T : Past → NodeId → NodeId → What → Type 0) (keeps : KeepsSent T) where
    kind_made : {S : Type 0} (k : Kind S) → SendsKeep k T → (e : HistoryEntry) (past : Past) → IsPastOf cfg (e ∷ past) → OfSent T past → k.IsOne e.node
        → AllByRecursion (λ (m : Message). T (e ∷ past) m.from m.to m.what) (k.step (after k cfg e.node past) e.event).sends
    kind_made k keeps_kind e past run before one =
        named_all (T (e ∷ past)) e.node (k.step (after k cfg e.node past) e.event).sends (sends_from k e past run one) (keeps_kind e past run one before)

    step_made : (e : HistoryEntry) (past : Past) → IsPastOf cfg (e ∷ past) → OfSent T past
        → AllByRecursion (λ (m : Message). T (e ∷ past) m.from m.to m.what) e.sends
    step_made e past run before =
        let Made : Step → Type 0 = λ step. AllByRecursion (λ (m : Message). T (e ∷ past) m.from m.to m.what) step.sends in
        subst (AllByRecursion (λ (m : Message). T (e ∷ past) m.from m.to m.what)) (sym run.0.sends)
        (by_kind Made cfg past e.event e.node
        (kind_made sequencers keeps.at_sequencers e past run before) (kind_made replicas keeps.at_replicas e past run before)
        (kind_made clients keeps.at_clients e past run before) (kind_made consumers keeps.at_consumers e past run before))

    pub every_sent : (past : Past) → IsPastOf cfg past → OfSent T past
    every_sent =
        every_member cfg sent (λ e past. e.sends) (λ past m. T past m.from m.to m.what) (record { none = refl; more = λ e past. refl })
        (record { stays = keeps.stays; made = step_made })
