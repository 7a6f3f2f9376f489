-- In every run each slot is a sound state of the machine of one slot.
use Rattle.std.proofs.Common.{◌≡◌, ◌∙◌, ℕ, [], ◌∷◌, Some, refl, sym, ap}
use Rattle.std.specs.List.{slice_get}
use Rattle.majority.specs.Slot.{fresh_slot}
use Rattle.majority.proofs.Lists.{Contains_none}
use Rattle.majority.proofs.Schedules.{IsSound_fresh}
use Rattle.msg_wire.specs.Valid.{IsValidConfig}
use Rattle.net_model.specs.Pasts.{Past}
use Rattle.runs.specs.Names.{Config, Entry, HistoryEntry}
use Rattle.runs.specs.Kinds.{items_at}
use Rattle.runs.specs.Marks.{known_by}
use Rattle.runs.specs.Runs.{IsPastOf}
use Rattle.safety_frame.proofs.NodeKinds.{stored, replicas, clients, consumers}
use Rattle.safety_frame.proofs.Pasts.{no_items, of_replica, of_client, of_consumer}
use Rattle.safety_frame.proofs.StableParts.{replica_known, client_known, consumer_known}
use Rattle.safety_frame.proofs.Inductions.{every_past}
use Rattle.safety_agreement.proofs.OtherKinds.{on_kind}
use Rattle.safety_agreement.proofs.Slots.{SlotOf, other_kind, sequencer_kind}

module _ (cfg : Config) (valid : IsValidConfig cfg) (slot : ℕ) where
  slot_next : (e : HistoryEntry) (past : Past) → IsPastOf cfg (e ∷ past) → SlotOf cfg slot past → SlotOf cfg slot (e ∷ past)
  slot_next e past run before =
      on_kind e.node (sequencer_kind cfg valid slot e past run before)
      (λ one apart. other_kind cfg valid slot e past run before replicas replica_known one apart
      (of_replica (λ node. (p : Past) → items_at cfg node p ≡ stored replicas cfg node p) (λ n side p. refl) e.node one) (λ n event s entry is. is))
      (λ one apart. other_kind cfg valid slot e past run before clients client_known one apart
      (of_client (λ node. (p : Past) → items_at cfg node p ≡ stored clients cfg node p) (λ n p. refl) e.node one) (λ n event s entry is. is))
      (λ one apart. other_kind cfg valid slot e past run before consumers consumer_known one apart
      (of_consumer (λ node. (p : Past) → items_at cfg node p ≡ stored consumers cfg node p) (λ n p. refl) e.node one) (λ n event s entry is. is))

  slot_starts : SlotOf cfg slot []
  slot_starts = (
    fresh_slot,
    record {
      sound = IsSound_fresh cfg.seqs;
      mirrors = λ number here. record {
        acceptor = refl;
        attempt = refl;
        offered = tt;
        voted = λ ballot entry c. absurd (Contains_none _ c);
        votes = λ ballot entry h. absurd (Contains_none _ h);
      };
      said = λ m c. absurd (Contains_none m c);
      known = λ node entry at.
          let none : slice_get [] slot ≡ Some entry = sym (ap (λ l. slice_get (known_by l) slot) (no_items cfg node)) ∙ at in
          absurd (nothing_there entry slot none);
    },
  )
    where
      nothing_there : (entry : Entry) (k : ℕ) → slice_get [] k ≡ Some entry → ⊥
      nothing_there entry k e = cc

  pub slot_of : (past : Past) → IsPastOf cfg past → SlotOf cfg slot past
  slot_of = every_past cfg (SlotOf cfg slot) slot_starts slot_next
