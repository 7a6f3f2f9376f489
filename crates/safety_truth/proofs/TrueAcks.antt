-- A client shows an acknowledgement as an Ack of it comes, which a replica had sent; so the position that it tells was confirmed before.
use Rattle.std.proofs.Common.{◌≡◌, ℕ, true, ◌∷◌, sym, subst}
use Rattle.std.specs.Prelude.{IsTrue}
use Rattle.std.specs.List.{AllByRecursion}
use Rattle.std.proofs.lemmas.Bool.{and_parts}
use Rattle.msg_wire.specs.Heeded.{goes_between}
use Rattle.msg_wire.specs.Nodes.{is_replica, is_client}
use Rattle.msg_wire.specs.Valid.{IsValidConfig}
use Rattle.net_model.specs.Pasts.{Past, Throughout}
use Rattle.node_rules.specs.Nodes.{Node}
use Rattle.node_rules.proofs.Places.{Comes}
use Rattle.client_node.specs.States.{ClientState}
use Rattle.client_node.proofs.Places.{Shows, acknowledged}
use Rattle.runs.specs.Names.{NodeId, Config, Message, What, Mark, HistoryEntry}
use Rattle.runs.specs.Names.marks
use Rattle.runs.specs.Names.whats
use Rattle.runs.specs.Runs.{IsPastOf, Comes as ComesIn}
use Rattle.runs.specs.Truth.{IsTrueAck, AcksAreTrue}
use Rattle.safety_frame.specs.EveryRun.{OfEveryRun}
use Rattle.safety_frame.proofs.Clauses.{each_shown}
use Rattle.safety_frame.proofs.Heeding.{messages_are_heeded}
use Rattle.safety_frame.proofs.Inductions.{every_past}
use Rattle.safety_frame.proofs.Lists.{all_true}
use Rattle.safety_frame.proofs.NodeKinds.{after, clients}
use Rattle.safety_frame.proofs.Pasts.{by_kind, of_sequencer, of_replica, of_client, of_consumer}
use Rattle.safety_clients.specs.Acks.{AckTells}
use Rattle.safety_clients.specs.Telling.{OfShard}
use Rattle.safety_clients.proofs.Acks.{acks_tell}

module _ (cfg : Config) (valid : IsValidConfig cfg) (e : HistoryEntry) (past : Past) (run : IsPastOf cfg (e ∷ past)) where
  abbrev IsTrueHere : Mark → Type 0
  IsTrueHere = IsTrueAck past e.node

  -- ---- an Ack that comes

  told_true : (m : Message) → IsTrue (is_replica m.from) → OfShard (λ shard. AckTells past m.what m.to) m.from → AckTells past m.what m.to
  told_true m one tells = of_replica (λ from. OfShard (λ shard. AckTells past m.what m.to) from → AckTells past m.what m.to) (λ n side is. is) m.from one tells

  comes_true : (n : Node ClientState) (from : NodeId) (number position : ℕ) → Comes n e.event from (whats.Ack number position)
      → AckTells past (whats.Ack number position) e.node
  comes_true n from number position comes =
      let m = comes.message in
      let taken = subst (ComesIn past e.node) comes.same run.0.comes in
      let goes = (messages_are_heeded cfg past valid run.1).messages m taken.1 in
      let between = subst (λ (what : What). goes_between what m.from m.to ≡ true) comes.says goes.between in
      let one = (and_parts (is_replica m.from) (is_client m.to) between).0 in
      let tells = told_true m one (acks_tell cfg past valid run.1 m taken.1) in
      subst (AckTells past (whats.Ack number position)) taken.0 (subst (λ (what : What). AckTells past what m.to) comes.says tells)

  -- ---- what the entry shows

  module _ (one : IsTrue (is_client e.node)) where
    shown_true : (n s : Node ClientState) (mark : Mark) → Shows n e.event s mark → IsTrueHere mark
    shown_true n s _ (acknowledged from number position comes counted) =
        of_client (λ node. AckTells past (whats.Ack number position) node → IsTrueAck past node (marks.Ack number position)) (λ k tells. tells) e.node one
        (comes_true n from number position comes)

    client_true : (n : Node ClientState) → AllByRecursion IsTrueHere (clients.step n e.event).marks
    client_true n =
        each_shown clients IsTrueHere n e.event (λ r. tt) (λ s mark why. shown_true n s mark why)

  entry_true : AcksAreTrue past e
  entry_true =
      subst (AllByRecursion IsTrueHere) (sym run.0.shows)
      (by_kind (λ step. AllByRecursion IsTrueHere step.marks) cfg past e.event e.node
      (λ one. all_true IsTrueHere _ (of_sequencer (λ node. (mark : Mark) → IsTrueAck past node mark) (λ n mark. tt) e.node one))
      (λ one. all_true IsTrueHere _ (of_replica (λ node. (mark : Mark) → IsTrueAck past node mark) (λ n side mark. tt) e.node one))
      (λ one. client_true one (after clients cfg e.node past))
      (λ one. all_true IsTrueHere _ (of_consumer (λ node. (mark : Mark) → IsTrueAck past node mark) (λ n mark. tt) e.node one)))

pub acks_are_true : OfEveryRun (λ cfg past. Throughout AcksAreTrue past)
acks_are_true cfg past valid = every_past cfg (Throughout AcksAreTrue) tt (λ e before run kept. (entry_true cfg valid e before run, kept)) past
