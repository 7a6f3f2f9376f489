-- What a Decided tells is known to its sender: as it is sent by the table of sequencers, and later since known lists grow.
use Rattle.std.proofs.Common.{◌≡◌, ◌∙◌, true, ◌∷◌, List, Contains, sym, ap, subst}
use Rattle.std.specs.Prelude.{IsTrue}
use Rattle.msg_wire.specs.Nodes.{is_sequencer}
use Rattle.msg_wire.specs.Heeded.{goes_between}
use Rattle.msg_wire.specs.Valid.{IsValidConfig}
use Rattle.net_model.specs.Pasts.{Past, sent}
use Rattle.node_rules.proofs.Lists.{all_weaken}
use Rattle.seq_node.specs.Messages.{IsTrueOf}
use Rattle.seq_node.proofs.Messages.{messages_are_true}
use Rattle.runs.specs.Names.{NodeId, Config, Entry, Message, What, HistoryEntry}
use Rattle.runs.specs.Names.nodes
use Rattle.runs.specs.Names.whats
use Rattle.runs.specs.Known.{known_at}
use Rattle.runs.specs.Marks.{IsPrefix, known_by}
use Rattle.runs.specs.Runs.{IsPastOf}
use Rattle.runs.proofs.SameNodes.{node_itself}
use Rattle.safety_frame.proofs.NodeKinds.{after, stored, sequencers}
use Rattle.safety_frame.proofs.Pasts.{own_state, of_replica, of_client, of_consumer, known_grows}
use Rattle.safety_frame.proofs.Lists.{all_true, index_stays, length_stays}
use Rattle.safety_frame.proofs.Senders.{SendsKeep, every_sent}
use Rattle.safety_frame.proofs.StableItems.{known_is}
use Rattle.safety_frame.proofs.StableParts.{sequencer_known}
use Rattle.safety_frame.proofs.Heeding.{messages_are_heeded}
use Rattle.safety_frame.specs.EveryRun.{OfEveryRun}
use Rattle.safety_agreement.specs.Decideds.{DecidedsAreKnown}

-- of what a sequencer sends
abbrev Tells : Config → Past → NodeId → What → Type 0
Tells cfg past (nodes.Seq number) what = IsTrueOf (known_at cfg (nodes.Seq number) past) what
Tells cfg past _ what = Unit {0}

-- it stays true
grown : (known longer : List Entry) (what : What) → IsPrefix known longer → IsTrueOf known what → IsTrueOf longer what
grown known longer (whats.Decided slot count entry) grows was =
    (was.0, length_stays known longer count grows was.1, index_stays known longer slot entry grows was.2)
grown known longer _ grows was = tt

stays : (cfg : Config) (e : HistoryEntry) (past : Past) (from : NodeId) (what : What) → Tells cfg past from what → Tells cfg (e ∷ past) from what
stays cfg e past (nodes.Seq number) what was =
    grown (known_at cfg (nodes.Seq number) past) (known_at cfg (nodes.Seq number) (e ∷ past)) what (known_grows cfg (nodes.Seq number) e past) was
stays cfg e past _ what was = tt

told : (cfg : Config) (past : Past) (node : NodeId) (what : What) → IsTrue (is_sequencer node) → IsTrueOf (known_by (stored sequencers cfg node past)) what
    → Tells cfg past node what
told cfg past (nodes.Seq number) what one is = is
told cfg past _ what one is = tt

module _ (cfg : Config) (valid : IsValidConfig cfg) where
  -- of what a sequencer's step sends
  sequencers_keep : SendsKeep cfg valid sequencers (λ past from to what. Tells cfg past from what)
  sequencers_keep e past run one before =
      let n = after sequencers cfg e.node past in
      let known =
      ap (λ s. s.base.known) (sym (own_state sequencers cfg e.node e past valid run (node_itself e.node)))
      ∙ known_is sequencers sequencer_known cfg valid (e ∷ past) run e.node one run.0.within in
      all_weaken (λ (m : Message). IsTrueOf (sequencers.step n e.event).state.base.known m.what) (λ (m : Message). Tells cfg (e ∷ past) e.node m.what)
      (sequencers.step n e.event).sends
      (λ m is. told cfg (e ∷ past) e.node m.what one (subst (λ l. IsTrueOf l m.what) known is)) (messages_are_true n e.event)

  all_tell : (past : Past) → IsPastOf cfg past → (m : Message) → Contains (sent past) m → Tells cfg past m.from m.what
  all_tell =
      every_sent cfg valid (λ past from to what. Tells cfg past from what)
      (record {
        stays = λ e past m run there was. stays cfg e past m.from m.what was;
        at_sequencers = sequencers_keep;
        at_replicas = λ e past run one before. all_true _ _ (λ m. of_replica (λ node. Tells cfg (e ∷ past) node m.what) (λ n side. tt) e.node one);
        at_clients = λ e past run one before. all_true _ _ (λ m. of_client (λ node. Tells cfg (e ∷ past) node m.what) (λ n. tt) e.node one);
        at_consumers = λ e past run one before. all_true _ _ (λ m. of_consumer (λ node. Tells cfg (e ∷ past) node m.what) (λ n. tt) e.node one);
      })

-- none else sends one
by_sender : (cfg : Config) (past : Past) (from to : NodeId) (what : What) → goes_between what from to ≡ true → Tells cfg past from what
    → IsTrueOf (known_at cfg from past) what
by_sender cfg past (nodes.Seq number) to what goes tells = tells
by_sender cfg past from to (whats.Decided slot count entry) goes tells = absurd (cc)
by_sender cfg past from to _ goes tells = tt

pub decideds_are_known : OfEveryRun DecidedsAreKnown
decideds_are_known cfg past valid run m there =
    by_sender cfg past m.from m.to m.what ((messages_are_heeded cfg past valid run).messages m there).between (all_tell cfg valid past run m there)
