-- What the node of an entry learns with it, where it is a replica or a consumer, and what the entry shows of removals.
use Rattle.std.proofs.Common.{◌≡◌, ◌∙◌, ◌⊎◌, List, ◌∷◌, Option, refl, sym, ap, subst, inl, inr}
use Rattle.std.specs.Prelude.{IsTrue}
use Rattle.cut_core.specs.Agreements.{Agreement}
use Rattle.msg_wire.specs.Nodes.{is_replica, is_consumer}
use Rattle.msg_wire.specs.Valid.{IsValidConfig}
use Rattle.net_model.specs.Pasts.{Past}
use Rattle.node_rules.specs.Nodes.{Node, agreed_by}
use Rattle.node_rules.specs.Turns.{step_of}
use Rattle.consumer_node.specs.Apps.{any_meaning}
use Rattle.runs.specs.Names.{NodeId, Config, Entry, HistoryEntry}
use Rattle.runs.specs.Kinds.{items_at, step_at}
use Rattle.runs.specs.Known.{known_at, agreed_after, agreed_at}
use Rattle.runs.specs.Marks.{known_by}
use Rattle.runs.specs.Runs.{IsPastOf}
use Rattle.safety_frame.proofs.NodeKinds.{Kind, after, stored, replicas, consumers}
use Rattle.safety_frame.proofs.Names.{states_named}
use Rattle.safety_frame.proofs.Parts.{IsByItems, adds}
use Rattle.safety_frame.proofs.Pasts.{of_replica, of_consumer}
use Rattle.safety_frame.proofs.StableParts.{replica_known, consumer_known}
use Rattle.safety_agreement.proofs.Slots.{knew, knows}
use Rattle.safety_marks.proofs.Notices.{Shows, known_with, firsts_with, HasNoticed}
use Rattle.safety_marks.proofs.ReplicaNotices.{replica_notices}
use Rattle.safety_marks.proofs.ConsumerNotices.{consumer_notices}

pub record EntryNotices (cfg : Config) (e : HistoryEntry) (past : Past) : Type 0 where
  pub learned : Option Entry
  pub known : known_at cfg e.node (e ∷ past) ≡ known_with (known_at cfg e.node past) learned
  pub shows : Shows (firsts_with (agreed_at cfg e.node past) learned) e.marks

-- a node that notices removals
abbrev pub IsNoticing : NodeId → Type 0
IsNoticing node = IsTrue (is_replica node) ⊎ IsTrue (is_consumer node)

module _ (cfg : Config) (valid : IsValidConfig cfg) (e : HistoryEntry) (past : Past) (run : IsPastOf cfg (e ∷ past)) where
  module _ {S : Type 0} (k : Kind S) (is : IsByItems k (λ s. s.base.known) (adds known_by)) (one : k.IsOne e.node)
      (same : (p : Past) → items_at cfg e.node p ≡ stored k cfg e.node p)
      (step : step_at cfg e.node past e.event ≡ step_of (k.step (after k cfg e.node past) e.event)) where
    abbrev n : Node S
    n = after k cfg e.node past

    was : n.base.known ≡ known_at cfg e.node past
    was = knew cfg valid 0 e past run k is one same

    agrees : agreed_by n.base ≡ agreed_at cfg e.node past
    agrees =
        ap (λ (c : Config). agreed_after c n.base.known) (states_named k cfg valid past run.1 e.node one run.0.within).0 ∙ ap (agreed_after cfg) was

    by_step : HasNoticed n (k.step n e.event) → EntryNotices cfg e past
    by_step has = record {
      learned = has.0;
      known = sym (knows cfg valid 0 e past run k is one same) ∙ (has.1.0 ∙ ap (λ (l : List Entry). known_with l has.0) was);
      shows =
          subst (Shows (firsts_with (agreed_at cfg e.node past) has.0)) (sym (run.0.shows ∙ ap (λ s. s.marks) step))
          (subst (λ (a : Agreement). Shows (firsts_with a has.0) (k.step n e.event).marks) agrees has.1.1);
    }

  replica_entry : IsTrue (is_replica e.node) → EntryNotices cfg e past
  replica_entry one =
      by_step replicas replica_known one (of_replica (λ node. (p : Past) → items_at cfg node p ≡ stored replicas cfg node p) (λ n side p. refl) e.node one)
      (of_replica (λ node. step_at cfg node past e.event ≡ step_of (replicas.step (after replicas cfg node past) e.event)) (λ n side. refl) e.node one)
      (replica_notices (after replicas cfg e.node past) e.event)

  consumer_entry : IsTrue (is_consumer e.node) → EntryNotices cfg e past
  consumer_entry one =
      by_step consumers consumer_known one (of_consumer (λ node. (p : Past) → items_at cfg node p ≡ stored consumers cfg node p) (λ n p. refl) e.node one)
      (of_consumer (λ node. step_at cfg node past e.event ≡ step_of (consumers.step (after consumers cfg node past) e.event)) (λ n. refl) e.node one)
      (consumer_notices any_meaning (after consumers cfg e.node past) e.event)

  pub entry_notices : IsNoticing e.node → EntryNotices cfg e past
  entry_notices (inl one) = replica_entry one
  entry_notices (inr one) = consumer_entry one
