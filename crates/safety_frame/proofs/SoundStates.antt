-- Every run has sound states, and all that is sent and stored in it is valid.
use Rattle.std.proofs.Common.{◌∷◌, refl, sym, subst}
use Rattle.std.specs.List.{AllByRecursion}
use Rattle.msg_wire.specs.Valid.{IsValidConfig, IsValidMessage, IsValidItem, AreValidItems}
use Rattle.msg_wire.specs.Steps.{IsValidStep}
use Rattle.net_model.specs.Pasts.{Past, sent}
use Rattle.runs.specs.Names.{NodeId, Config, HistoryEntry}
use Rattle.runs.specs.Names.nodes
use Rattle.runs.specs.Runs.{IsPastOf}
use Rattle.runs.specs.Kinds.{items_at, step_at}
use Rattle.safety_frame.specs.Sound.{StatesAreSound}
use Rattle.safety_frame.specs.Gathered.{StoredItem, stored_in, all_stored}
use Rattle.safety_frame.proofs.NodeKinds.{Kind, after, sequencers, replicas, clients, consumers}
use Rattle.safety_frame.proofs.Inductions.{OfStates, OfEach, every_member, every_state}
use Rattle.safety_frame.proofs.Pasts.{by_kind}
use Rattle.safety_frame.proofs.Lists.{from_members, all_mapped}
use Rattle.safety_frame.proofs.Gathered.{gathers_stored, item_stored}

module _ {S : Type 0} (k : Kind S) (cfg : Config) (valid : IsValidConfig cfg) where
  pub states_are : (past : Past) → IsPastOf cfg past → OfStates k cfg valid (λ past node n. k.Is n) past
  states_are =
      every_state k cfg valid (λ past node n. k.Is n)
      (record {
        starts = λ node one here. k.fresh_is cfg node valid here one;
        steps = λ e past run one before. (k.keeps (after k cfg e.node past) e.event (before e.node one run.0.within) run.0.valid).0;
        stays = λ e past node n run other is. is;
      })

-- ---- what is sent and stored

module _ (cfg : Config) (valid : IsValidConfig cfg) where
  pub step_is_valid : (e : HistoryEntry) (past : Past) → IsPastOf cfg (e ∷ past) → IsValidStep (step_at cfg e.node past e.event)
  step_is_valid e past run =
      by_kind IsValidStep cfg past e.event e.node
      (λ one. (sequencers.keeps (after sequencers cfg e.node past) e.event (states_are sequencers cfg valid past run.1 e.node one run.0.within) run.0.valid).1)
      (λ one. (replicas.keeps (after replicas cfg e.node past) e.event (states_are replicas cfg valid past run.1 e.node one run.0.within) run.0.valid).1)
      (λ one. (clients.keeps (after clients cfg e.node past) e.event (states_are clients cfg valid past run.1 e.node one run.0.within) run.0.valid).1)
      (λ one. (consumers.keeps (after consumers cfg e.node past) e.event (states_are consumers cfg valid past run.1 e.node one run.0.within) run.0.valid).1)

  pub messages_valid : (past : Past) → IsPastOf cfg past → OfEach cfg sent (λ e past. e.sends) (λ past m. IsValidMessage m) past
  messages_valid =
      every_member cfg sent (λ e past. e.sends) (λ past m. IsValidMessage m) (record { none = refl; more = λ e past. refl })
      (record {
        stays = λ e past m run there is. is;
        made = λ e past run before. subst (AllByRecursion IsValidMessage) (sym run.0.sends) (step_is_valid e past run).sends;
      })

  all_items_valid : (past : Past) → IsPastOf cfg past → OfEach cfg (all_stored cfg) (stored_in cfg) (λ past x. IsValidItem x.item) past
  all_items_valid =
      every_member cfg (all_stored cfg) (stored_in cfg) (λ past x. IsValidItem x.item) (gathers_stored cfg)
      (record {
        stays = λ e past x run there is. is;
        made = λ e past run before. all_mapped (λ (x : StoredItem). IsValidItem x.item) _ _ (step_is_valid e past run).stable;
      })

  items_valid : (past : Past) → IsPastOf cfg past → (node : NodeId) → AreValidItems (items_at cfg node past)
  items_valid past run node = from_members IsValidItem (items_at cfg node past) (λ item c. all_items_valid past run _ (item_stored cfg node item past c))

-- ---- states

pub states_are_sound : StatesAreSound
states_are_sound cfg past valid run = record {
  sequencers = λ number here.
      let is = states_are sequencers cfg valid past run (nodes.Seq number) refl here in
      record { orderly = is.0; kind = is.1 };
  replicas = λ shard side here. states_are replicas cfg valid past run (nodes.Shard shard side) refl here;
  clients = λ number here. states_are clients cfg valid past run (nodes.Client number) refl here;
  consumers = λ number here. (states_are consumers cfg valid past run (nodes.Consumer number) refl here).is;
  messages = from_members IsValidMessage (sent past) (messages_valid cfg valid past run);
  items = items_valid cfg valid past run;
}
