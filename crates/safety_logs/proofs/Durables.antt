-- A replica's step takes no more for durable than the backup has, and delivers only what is durable.
use Rattle.std.proofs.Common.{◌≡◌, ◌∙◌, ℕ, ◌<◌, ◌≤◌, false, List, [], ◌∷◌, ◌++◌, length, refl, sym, ap, subst, arith}
use Rattle.std.specs.List.{AllByRecursion}
use Rattle.cut_core.specs.Map.{covered_locals}
use Rattle.msg_wire.specs.Nodes.{is_primary, number_of}
use Rattle.node_rules.specs.Nodes.{Node}
use Rattle.node_rules.specs.Turns.{Turn}
use Rattle.node_rules.proofs.Lists.{on_test, all_push}
use Rattle.node_rules.proofs.Places.{Comes}
use Rattle.shard_node.specs.States.{ReplicaState, durable_locals}
use Rattle.shard_node.proofs.Places.{Says, reports, copies, tells_length, promises, fetched, confirms, acks_again, acks_fate, fates, Stores, appends, copied, fills, Changes, holds, covers, cuts, promises_on}
use Rattle.runs.specs.Names.{NodeId, Config, Entry, Record, Item, Message, What, Event}
use Rattle.runs.specs.Names.whats
use Rattle.runs.specs.Known.{agreed_after}
use Rattle.runs.specs.Marks.{IsPrefix, log_by}
use Rattle.safety_frame.proofs.Lists.{begins_more, begins_on}
use Rattle.safety_frame.proofs.Names.{IsNamed}
use Rattle.safety_frame.proofs.NodeKinds.{replicas}
use Rattle.safety_frame.proofs.StableParts.{log_by_items}
use Rattle.safety_logs.proofs.Fronts.{no_longer}

-- a delivery is of a local below the limit
abbrev pub IsWithin : ℕ → What → Type 0
IsWithin limit (whats.Deliver local rec) = local < limit
IsWithin limit _ = Unit {0}

-- what a step ends with, and what is told as it goes
pub record Limits (n : Node ReplicaState) (event : Event) (known : List Entry) (log : List Record) (limit : ℕ) : Type 0 where
  pub covered : (before : List Entry) → IsPrefix before known → covered_locals (agreed_after n.base.cfg before) (number_of n.base.me) ≤ limit
  pub told : (from : NodeId) (len : ℕ) → Comes n event from (whats.Replicated len) → len ≤ limit
  pub backup : is_primary n.base.me ≡ false → length log ≤ limit

module _ (n : Node ReplicaState) (event : Event) (known : List Entry) (log : List Record) (limit : ℕ) (limits : Limits n event known log limit) where
  -- as long as what is known and held begins what the step ends with
  abbrev Holds : Turn ReplicaState → Type 0
  Holds t =
      IsNamed n.base.cfg n.base.me t.state
      × (IsPrefix t.state.base.known known → IsPrefix t.state.own.log log
      → (t.state.own.durable ≤ limit) × AllByRecursion (λ (m : Message). IsWithin limit m.what) t.sends)

  durable_within : (s : Node ReplicaState) → s.base.me ≡ n.base.me → IsPrefix s.own.log log → s.own.durable ≤ limit → durable_locals s ≤ limit
  durable_within s me held durable =
      on_test (λ (k : ℕ). k ≤ limit) (is_primary s.base.me) s.own.durable (length s.own.log) (λ _. durable)
      (λ backup. omega (arith, no_longer s.own.log log held, limits.backup (ap is_primary (sym me) ∙ backup)))

  says_within : (s : Node ReplicaState) (to : NodeId) (what : What) → Says n event s to what → s.base.me ≡ n.base.me → IsPrefix s.own.log log
      → s.own.durable ≤ limit → IsWithin limit what
  says_within s to _ (promises _ i position rec there why) me held durable = omega (arith, durable, why.durable)
  says_within s to _ (fetched _ local rec comes below at) me held durable = omega (arith, below, durable_within s me held durable)
  says_within s to _ (reports _ i there) me held durable = tt
  says_within s _ _ (copies local rec primary at) me held durable = tt
  says_within s to _ (tells_length _ local rec comes) me held durable = tt
  says_within s _ _ (confirms local position client number body primary why) me held durable = tt
  says_within s to _ (acks_again _ first number body local position comes few at place) me held durable = tt
  says_within s to _ (acks_fate _ least next local position why below at place) me held durable = tt
  says_within s to _ (fates _ least next why above) me held durable = tt

  stores_same : (s : Node ReplicaState) (item : Item) (own : ReplicaState) → Stores n event s item own → own.durable ≡ s.own.durable
  stores_same s _ _ (appends from first number body comes there low room expected) = refl
  stores_same s _ _ (copied from rec comes room) = refl
  stores_same s _ _ (fills from wanted comes there short) = refl

  known_covered : (s : Node ReplicaState) → IsNamed n.base.cfg n.base.me s → IsPrefix s.base.known known
      → covered_locals (agreed_after s.base.cfg s.base.known) (number_of s.base.me) ≤ limit
  known_covered s named begins =
      subst (λ (c : Config). covered_locals (agreed_after c s.base.known) (number_of s.base.me) ≤ limit) (sym named.0)
      (subst (λ (me : NodeId). covered_locals (agreed_after n.base.cfg s.base.known) (number_of me) ≤ limit) (sym named.1)
      (limits.covered s.base.known begins))

  changes_within : (s : Node ReplicaState) (own : ReplicaState) → Changes n event s own → IsNamed n.base.cfg n.base.me s → IsPrefix s.base.known known
      → s.own.durable ≤ limit → own.durable ≤ limit
  changes_within s _ (holds from len comes) named begins durable = omega (arith, durable, limits.told from len comes)
  changes_within s _ (covers before entry learned) named begins durable = omega (arith, durable, known_covered s named begins)
  changes_within s _ (cuts first why) named begins durable = durable
  changes_within s _ (promises_on below primary free) named begins durable = durable

  walked : n.own.durable ≤ limit → Holds (replicas.step n event)
  walked start =
      replicas.walk Holds n event
      (record {
        starts = ((refl, refl), λ begins held. (start, tt));
        restarts = λ e. ((refl, refl), λ begins held. (known_covered n (refl, refl) begins, tt));
        learns = λ t entry why w. (
          w.0,
          λ begins held.
              w.1 (begins_on t.state.base.known (t.state.base.known ++ entry ∷ []) known (begins_more t.state.base.known (entry ∷ [])) begins) held,
        );
        sees = λ t from slot count entry why w. w;
        ticks = λ t why w. w;
        asks = λ t to why w. (
          w.0,
          λ begins held. ((w.1 begins held).0, all_push (λ (m : Message). IsWithin limit m.what) t.sends _ (w.1 begins held).1 tt),
        );
        says = λ t to what why w. (
          w.0,
          λ begins held.
              let was = w.1 begins held in
              (was.0, all_push (λ (m : Message). IsWithin limit m.what) t.sends _ was.1 (says_within t.state to what why w.0.1 held was.0)),
        );
        shows = λ t mark why w. w;
        stores = λ t item own why w. (
          w.0,
          λ begins held.
              let more : IsPrefix t.state.own.log own.log = (log_by (item ∷ []), log_by_items.stores n event t.state item own why) in
              let was = w.1 begins (begins_on t.state.own.log own.log log more held) in
              (omega (arith, stores_same t.state item own why, was.0), was.1),
        );
        changes = λ t own why w. (
          w.0,
          λ begins held.
              let was = w.1 begins (subst (λ l. IsPrefix l log) (log_by_items.changes n event t.state own why) held) in
              (changes_within t.state own why w.0 begins was.0, was.1),
        );
      })

  -- a whole step, which ends with just this
  pub step_within : n.own.durable ≤ limit → IsPrefix (replicas.step n event).state.base.known known → IsPrefix (replicas.step n event).state.own.log log
      → ((replicas.step n event).state.own.durable ≤ limit) × AllByRecursion (λ (m : Message). IsWithin limit m.what) (replicas.step n event).sends
  step_within start begins held = (walked start).1 begins held
