-- What one entry more leaves of each node: of the entry's own what its step leaves, of others what was.
use Rattle.std.proofs.Common.{◌≡◌, ◌∙◌, ℕ, Bool, true, false, List, [], ◌∷◌, ◌++◌, append-nil, refl, ap, subst}
use Rattle.std.specs.Prelude.{IsTrue, if◌then◌else◌, Contains}
use Rattle.std.proofs.lemmas.List.Elements.{filter_map-append}
use Rattle.std.proofs.lemmas.Grind.{flat_map-append}
use Rattle.majority.proofs.Lists.{Contains_none}
use Rattle.msg_wire.specs.Nodes.{same_node, is_sequencer, is_replica, is_client, is_consumer}
use Rattle.msg_wire.specs.Valid.{IsValidConfig, IsNodeOf}
use Rattle.net_model.specs.Pasts.{Past, marks_of, submissions_of, body_in}
use Rattle.net_model.specs.Tables.{step_if, progress_of}
use Rattle.node_rules.specs.Turns.{step_of}
use Rattle.runs.specs.Names.{NodeId, Side, Config, Item, Event, Step, HistoryEntry}
use Rattle.runs.specs.Names.nodes
use Rattle.runs.specs.Kinds.{items_at, step_at}
use Rattle.runs.specs.Runs.{IsPastOf}
use Rattle.runs.specs.Known.{known_at, log_at}
use Rattle.runs.specs.Marks.{IsPrefix, entry_in, known_by, records_in, log_by}
use Rattle.runs.proofs.InPlace.{own_step, other_step}
use Rattle.runs.proofs.Restarts.{events_valid}
use Rattle.runs.proofs.SameNodes.{same_node_is}
use Rattle.safety_frame.proofs.NodeKinds.{Kind, table, after, stored, sequencers, replicas, clients, consumers}
use Rattle.safety_frame.proofs.Lists.{begins_same}

pub on_own : {P : Type 0} (b : Bool) → (b ≡ true → P) → (b ≡ false → P) → P
on_own true own other = own refl
on_own false own other = other refl

-- ---- of any kind

module _ {S : Type 0} (k : Kind S) (cfg : Config) (node : NodeId) (e : HistoryEntry) (past : Past) where
  pub own_items : same_node e.node node ≡ true → stored k cfg node (e ∷ past) ≡ stored k cfg node past ++ (k.step (after k cfg node past) e.event).stable
  own_items own = ap (λ (b : Bool). (step_if b (table k cfg node) e.event (progress_of (table k cfg node) node past)).stored) own

  pub other_items : same_node e.node node ≡ false → stored k cfg node (e ∷ past) ≡ stored k cfg node past
  other_items other = ap (λ (b : Bool). (step_if b (table k cfg node) e.event (progress_of (table k cfg node) node past)).stored) other

  -- a restart included
  pub own_state : IsValidConfig cfg → IsPastOf cfg (e ∷ past) → same_node e.node node ≡ true
      → after k cfg node (e ∷ past) ≡ (k.step (after k cfg node past) e.event).state
  own_state valid run own =
      let here = subst (IsNodeOf cfg) (same_node_is e.node node own) run.0.within in
      own_step k.step (k.fresh cfg node) (k.restart cfg node) node e past (k.in_place cfg node valid here) (events_valid cfg node past run.1) own

  pub other_state : same_node e.node node ≡ false → after k cfg node (e ∷ past) ≡ after k cfg node past
  other_state other = other_step (table k cfg node) node e past other

-- ---- by kinds

-- what holds of the step of a node of each kind holds of the step of any node
pub by_kind : (Q : Step → Type 0) (cfg : Config) (past : Past) (event : Event) (node : NodeId)
    → (IsTrue (is_sequencer node) → Q (step_of (sequencers.step (after sequencers cfg node past) event)))
    → (IsTrue (is_replica node) → Q (step_of (replicas.step (after replicas cfg node past) event)))
    → (IsTrue (is_client node) → Q (step_of (clients.step (after clients cfg node past) event)))
    → (IsTrue (is_consumer node) → Q (step_of (consumers.step (after consumers cfg node past) event)))
    → Q (step_at cfg node past event)
by_kind Q cfg past event (nodes.Seq n) a b c d = a refl
by_kind Q cfg past event (nodes.Shard n side) a b c d = b refl
by_kind Q cfg past event (nodes.Client n) a b c d = c refl
by_kind Q cfg past event (nodes.Consumer n) a b c d = d refl

-- so it is of any node's name
pub of_sequencer : (P : NodeId → Type 0) → ((n : ℕ) → P (nodes.Seq n)) → (node : NodeId) → IsTrue (is_sequencer node) → P node
of_sequencer P each (nodes.Seq n) is = each n
of_sequencer P each (nodes.Shard n side) is = absurd (cc)
of_sequencer P each (nodes.Client n) is = absurd (cc)
of_sequencer P each (nodes.Consumer n) is = absurd (cc)

pub of_replica : (P : NodeId → Type 0) → ((n : ℕ) (side : Side) → P (nodes.Shard n side)) → (node : NodeId) → IsTrue (is_replica node) → P node
of_replica P each (nodes.Seq n) is = absurd (cc)
of_replica P each (nodes.Shard n side) is = each n side
of_replica P each (nodes.Client n) is = absurd (cc)
of_replica P each (nodes.Consumer n) is = absurd (cc)

pub of_client : (P : NodeId → Type 0) → ((n : ℕ) → P (nodes.Client n)) → (node : NodeId) → IsTrue (is_client node) → P node
of_client P each (nodes.Seq n) is = absurd (cc)
of_client P each (nodes.Shard n side) is = absurd (cc)
of_client P each (nodes.Client n) is = each n
of_client P each (nodes.Consumer n) is = absurd (cc)

pub of_consumer : (P : NodeId → Type 0) → ((n : ℕ) → P (nodes.Consumer n)) → (node : NodeId) → IsTrue (is_consumer node) → P node
of_consumer P each (nodes.Seq n) is = absurd (cc)
of_consumer P each (nodes.Shard n side) is = absurd (cc)
of_consumer P each (nodes.Client n) is = absurd (cc)
of_consumer P each (nodes.Consumer n) is = each n

-- ---- of any node

pub own_stored : (cfg : Config) (node : NodeId) (e : HistoryEntry) (past : Past) → same_node e.node node ≡ true
    → items_at cfg node (e ∷ past) ≡ items_at cfg node past ++ (step_at cfg node past e.event).stable
own_stored cfg (nodes.Seq n) e past own = own_items sequencers cfg (nodes.Seq n) e past own
own_stored cfg (nodes.Shard n side) e past own = own_items replicas cfg (nodes.Shard n side) e past own
own_stored cfg (nodes.Client n) e past own = own_items clients cfg (nodes.Client n) e past own
own_stored cfg (nodes.Consumer n) e past own = own_items consumers cfg (nodes.Consumer n) e past own

pub other_stored : (cfg : Config) (node : NodeId) (e : HistoryEntry) (past : Past) → same_node e.node node ≡ false
    → items_at cfg node (e ∷ past) ≡ items_at cfg node past
other_stored cfg (nodes.Seq n) e past other = other_items sequencers cfg (nodes.Seq n) e past other
other_stored cfg (nodes.Shard n side) e past other = other_items replicas cfg (nodes.Shard n side) e past other
other_stored cfg (nodes.Client n) e past other = other_items clients cfg (nodes.Client n) e past other
other_stored cfg (nodes.Consumer n) e past other = other_items consumers cfg (nodes.Consumer n) e past other

pub no_items : (cfg : Config) (node : NodeId) → items_at cfg node [] ≡ []
no_items cfg (nodes.Seq n) = refl
no_items cfg (nodes.Shard n side) = refl
no_items cfg (nodes.Client n) = refl
no_items cfg (nodes.Consumer n) = refl

-- a node that has stored an item is one of the cluster
pub stores_within : (cfg : Config) (node : NodeId) (item : Item) (past : Past) → IsPastOf cfg past → Contains (items_at cfg node past) item → IsNodeOf cfg node
stores_within cfg node item [] run there = absurd (Contains_none item (subst (λ l. Contains l item) (no_items cfg node) there))
stores_within cfg node item (e ∷ past) run there =
    on_own (same_node e.node node) (λ own. subst (IsNodeOf cfg) (same_node_is e.node node own) run.0.within)
    (λ other. stores_within cfg node item past run.1 (subst (λ l. Contains l item) (other_stored cfg node e past other) there))

-- ---- lists that grow at their ends

pub items_grow : (cfg : Config) (node : NodeId) (e : HistoryEntry) (past : Past) → IsPrefix (items_at cfg node past) (items_at cfg node (e ∷ past))
items_grow cfg node e past =
    on_own (same_node e.node node) (λ own. ((step_at cfg node past e.event).stable, own_stored cfg node e past own))
    (λ other. begins_same (items_at cfg node past) (items_at cfg node (e ∷ past)) (other_stored cfg node e past other))

-- so does what is read off the items
pub reading_grows : {A : Type 0} (read : List Item → List A) → ((xs ys : List Item) → read (xs ++ ys) ≡ read xs ++ read ys)
    → (cfg : Config) (node : NodeId) (e : HistoryEntry) (past : Past) → IsPrefix (read (items_at cfg node past)) (read (items_at cfg node (e ∷ past)))
reading_grows read splits cfg node e past =
    let grown = items_grow cfg node e past in
    (read grown.0, ap read grown.1 ∙ splits (items_at cfg node past) grown.0)

pub known_grows : (cfg : Config) (node : NodeId) (e : HistoryEntry) (past : Past) → IsPrefix (known_at cfg node past) (known_at cfg node (e ∷ past))
known_grows cfg node e past = reading_grows known_by (filter_map-append entry_in) cfg node e past

pub log_grows : (cfg : Config) (shard : ℕ) (side : Side) (e : HistoryEntry) (past : Past)
    → IsPrefix (log_at cfg shard side past) (log_at cfg shard side (e ∷ past))
log_grows cfg shard side e past = reading_grows log_by (flat_map-append records_in) cfg (nodes.Shard shard side) e past

-- ---- marks and submissions

pub own_shown : (node : NodeId) (e : HistoryEntry) (past : Past) → same_node e.node node ≡ true → marks_of node (e ∷ past) ≡ marks_of node past ++ e.marks
own_shown node e past own = ap (λ (b : Bool). marks_of node past ++ (if b then e.marks else [])) own

pub other_shown : (node : NodeId) (e : HistoryEntry) (past : Past) → same_node e.node node ≡ false → marks_of node (e ∷ past) ≡ marks_of node past
other_shown node e past other = ap (λ (b : Bool). marks_of node past ++ (if b then e.marks else [])) other ∙ append-nil (marks_of node past)

pub own_submitted : (node : NodeId) (e : HistoryEntry) (past : Past) → same_node e.node node ≡ true
    → submissions_of node (e ∷ past) ≡ submissions_of node past ++ body_in e.event
own_submitted node e past own = ap (λ (b : Bool). submissions_of node past ++ (if b then body_in e.event else [])) own

pub other_submitted : (node : NodeId) (e : HistoryEntry) (past : Past) → same_node e.node node ≡ false
    → submissions_of node (e ∷ past) ≡ submissions_of node past
other_submitted node e past other =
    ap (λ (b : Bool). submissions_of node past ++ (if b then body_in e.event else [])) other ∙ append-nil (submissions_of node past)
