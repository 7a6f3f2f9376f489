-- Clauses of each item that is stored and of each mark that is shown with what its node knew then: by the kind of node that makes it.
use Rattle.std.proofs.Common.{◌≡◌, ◌∙◌, List, ◌∷◌, Contains, refl, sym, ap, subst}
use Rattle.std.specs.List.{AllByRecursion}
use Rattle.msg_wire.specs.Valid.{IsValidConfig}
use Rattle.net_model.specs.Pasts.{Past, marks_of}
use Rattle.node_rules.specs.Nodes.{Node}
use Rattle.node_rules.proofs.Lists.{all_push}
use Rattle.node_rules.specs.Turns.{Turn}
use Rattle.node_rules.proofs.Places.{unsent_sites}
use Rattle.runs.specs.Names.{NodeId, Config, Entry, Item, Mark, Event, HistoryEntry}
use Rattle.runs.specs.Names.events
use Rattle.runs.specs.Runs.{IsPastOf}
use Rattle.runs.specs.Kinds.{items_at}
use Rattle.runs.specs.Known.{known_at}
use Rattle.runs.specs.Marks.{IsPrefix, known_by}
use Rattle.runs.proofs.SameNodes.{node_itself}
use Rattle.safety_frame.specs.Gathered.{StoredItem, all_stored, stored_in, ToldMark, all_told, told_in}
use Rattle.safety_frame.proofs.NodeKinds.{Kind, after, stored, sequencers, replicas, clients, consumers}
use Rattle.safety_frame.proofs.Inductions.{every_member}
use Rattle.safety_frame.proofs.Pasts.{by_kind, own_state, of_sequencer, of_replica, of_client, of_consumer}
use Rattle.safety_frame.proofs.Parts.{IsByItems, adds}
use Rattle.safety_frame.proofs.StableParts.{sequencer_known, replica_known, client_known, consumer_known}
use Rattle.safety_frame.proofs.StableItems.{known_is}
use Rattle.safety_frame.proofs.Lists.{all_mapped}
use Rattle.safety_frame.proofs.Gathered.{gathers_stored, item_stored, stored_there, gathers_told, mark_told, told_known}

-- what holds of the marks of a restart, and of a mark at each place that shows one, holds of all marks of a step
pub each_shown : {S : Type 0} (k : Kind S) (P : Mark → Type 0) (n : Node S) (event : Event) → (event ≡ events.Restart → AllByRecursion P (k.places.shown n))
    → ((s : Node S) (mark : Mark) → k.places.Shows n event s mark → P mark) → AllByRecursion P (k.step n event).marks
each_shown {S} k P n event restarted shown =
    k.walk _ n event
    (unsent_sites (λ (t : Turn S). AllByRecursion P t.marks)
    (record {
      starts = tt;
      restarts = restarted;
      learns = λ t entry why w. w;
      shows = λ t mark why w. all_push P t.marks mark w (shown t.state mark why);
      stores = λ t item own why w. w;
      changes = λ t own why w. w;
    }))

module _ (cfg : Config) (valid : IsValidConfig cfg) where
  -- ---- items

  abbrev pub OfItems : (Past → NodeId → Item → Type 0) → Past → Type 0
  OfItems T past = (x : StoredItem) → Contains (all_stored cfg past) x → T past x.node x.item

  abbrev pub ItemsKeep : {S : Type 0} → Kind S → (Past → NodeId → Item → Type 0) → Type 0
  ItemsKeep k T =
      (e : HistoryEntry) (past : Past) → IsPastOf cfg (e ∷ past) → k.IsOne e.node → OfItems T past
      → AllByRecursion (T (e ∷ past) e.node) (k.step (after k cfg e.node past) e.event).stable

  pub record KeepsItems (T : Past → NodeId → Item → Type 0) : Type 0 where
    pub stays : (e : HistoryEntry) (past : Past) (node : NodeId) (item : Item) → IsPastOf cfg (e ∷ past) → Contains (items_at cfg node past) item
        → T past node item → T (e ∷ past) node item
    pub at_sequencers : ItemsKeep sequencers T
    pub at_replicas : ItemsKeep replicas T
    pub at_clients : ItemsKeep clients T
    pub at_consumers : ItemsKeep consumers T

  pub every_item : (T : Past → NodeId → Item → Type 0) → KeepsItems T → (past : Past) → IsPastOf cfg past → OfItems T past
  every_item T keeps =
      every_member cfg (all_stored cfg) (stored_in cfg) (λ past x. T past x.node x.item) (gathers_stored cfg)
      (record {
        stays = λ e past x run there was. keeps.stays e past x.node x.item run (stored_there cfg x past there) was;
        made = λ e past run before.
            all_mapped (λ (x : StoredItem). T (e ∷ past) x.node x.item) _ _
            (by_kind (λ step. AllByRecursion (T (e ∷ past) e.node) step.stable) cfg past e.event e.node
            (λ one. keeps.at_sequencers e past run one before) (λ one. keeps.at_replicas e past run one before)
            (λ one. keeps.at_clients e past run one before) (λ one. keeps.at_consumers e past run one before));
      })

  -- so it holds of each item of a node
  pub each_item : (T : Past → NodeId → Item → Type 0) → KeepsItems T → (past : Past) → IsPastOf cfg past
      → (node : NodeId) (item : Item) → Contains (items_at cfg node past) item → T past node item
  each_item T keeps past run node item c = every_item T keeps past run (record { node = node; item = item }) (item_stored cfg node item past c)

  -- ---- marks

  abbrev pub OfMarks : (Past → NodeId → List Entry → Mark → Type 0) → Past → Type 0
  OfMarks T past = (x : ToldMark) → Contains (all_told cfg past) x → T past x.node x.known x.mark

  -- with what the node knows after the step, by its state
  abbrev pub MarksKeep : {S : Type 0} → Kind S → (Past → NodeId → List Entry → Mark → Type 0) → Type 0
  MarksKeep k T =
      (e : HistoryEntry) (past : Past) → IsPastOf cfg (e ∷ past) → k.IsOne e.node → OfMarks T past
      → AllByRecursion (T (e ∷ past) e.node (k.step (after k cfg e.node past) e.event).state.base.known) (k.step (after k cfg e.node past) e.event).marks

  pub record KeepsMarks (T : Past → NodeId → List Entry → Mark → Type 0) : Type 0 where
    pub stays : (e : HistoryEntry) (past : Past) (x : ToldMark) → IsPastOf cfg (e ∷ past) → Contains (all_told cfg past) x
        → T past x.node x.known x.mark → T (e ∷ past) x.node x.known x.mark
    pub at_sequencers : MarksKeep sequencers T
    pub at_replicas : MarksKeep replicas T
    pub at_clients : MarksKeep clients T
    pub at_consumers : MarksKeep consumers T

  module _ (T : Past → NodeId → List Entry → Mark → Type 0) (keeps : KeepsMarks T) where
    -- what a node's state knows after an entry is what its items give
    kind_told : {S : Type 0} (k : Kind S) → IsByItems k (λ s. s.base.known) (adds known_by) → MarksKeep k T → (e : HistoryEntry) (past : Past)
        → IsPastOf cfg (e ∷ past) → OfMarks T past
        → k.IsOne e.node → AllByRecursion (T (e ∷ past) e.node (known_by (stored k cfg e.node (e ∷ past)))) (k.step (after k cfg e.node past) e.event).marks
    kind_told k is keeps_kind e past run before one =
        let left = ap (λ s. s.base.known) (sym (own_state k cfg e.node e past valid run (node_itself e.node))) in
        subst (λ known. AllByRecursion (T (e ∷ past) e.node known) (k.step (after k cfg e.node past) e.event).marks)
        (left ∙ known_is k is cfg valid (e ∷ past) run e.node one run.0.within) (keeps_kind e past run one before)

    kind_shown : {S : Type 0} (k : Kind S) → IsByItems k (λ s. s.base.known) (adds known_by) → MarksKeep k T → (e : HistoryEntry) (past : Past)
        → IsPastOf cfg (e ∷ past) → OfMarks T past
        → (k.IsOne e.node → items_at cfg e.node (e ∷ past) ≡ stored k cfg e.node (e ∷ past)) → k.IsOne e.node
        → AllByRecursion (T (e ∷ past) e.node (known_at cfg e.node (e ∷ past))) (k.step (after k cfg e.node past) e.event).marks
    kind_shown k is keeps_kind e past run before same one =
        subst (λ l. AllByRecursion (T (e ∷ past) e.node (known_by l)) (k.step (after k cfg e.node past) e.event).marks) (sym (same one))
        (kind_told k is keeps_kind e past run before one)

    step_told : (e : HistoryEntry) (past : Past) → IsPastOf cfg (e ∷ past) → OfMarks T past
        → AllByRecursion (T (e ∷ past) e.node (known_at cfg e.node (e ∷ past))) e.marks
    step_told e past run before =
        let now : Past = e ∷ past in
        let Told : Mark → Type 0 = T now e.node (known_at cfg e.node now) in
        subst (AllByRecursion Told) (sym run.0.shows)
        (by_kind (λ step. AllByRecursion Told step.marks) cfg past e.event e.node
        (kind_shown sequencers sequencer_known keeps.at_sequencers e past run before
        (of_sequencer (λ node. items_at cfg node now ≡ stored sequencers cfg node now) (λ n. refl) e.node))
        (kind_shown replicas replica_known keeps.at_replicas e past run before
        (of_replica (λ node. items_at cfg node now ≡ stored replicas cfg node now) (λ n side. refl) e.node))
        (kind_shown clients client_known keeps.at_clients e past run before
        (of_client (λ node. items_at cfg node now ≡ stored clients cfg node now) (λ n. refl) e.node))
        (kind_shown consumers consumer_known keeps.at_consumers e past run before
        (of_consumer (λ node. items_at cfg node now ≡ stored consumers cfg node now) (λ n. refl) e.node)))

    pub every_mark : (past : Past) → IsPastOf cfg past → OfMarks T past
    every_mark =
        every_member cfg (all_told cfg) (told_in cfg) (λ past x. T past x.node x.known x.mark) (gathers_told cfg)
        (record {
          stays = keeps.stays;
          made = λ e past run before. all_mapped (λ (x : ToldMark). T (e ∷ past) x.node x.known x.mark) _ _ (step_told e past run before);
        })

    -- so it holds of each mark of a node, with something that the node knew then
    pub each_mark : (past : Past) → IsPastOf cfg past → (node : NodeId) (mark : Mark) → Contains (marks_of node past) mark
        → (known : List Entry) × IsPrefix known (known_at cfg node past) × T past node known mark
    each_mark past run node mark c =
        let told = mark_told cfg node mark past c in
        let x : ToldMark = record { node = node; known = told.0; mark = mark } in
        (told.0, told_known cfg x past told.1, every_mark past run x told.1)
