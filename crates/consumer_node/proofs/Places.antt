-- The places of a consumer's table at which it sends, shows, stores or changes, and what is known there; then the same places for what
-- holds between its rules alone: inside a rule, and as a step ends, something else may hold at each stage.
use Rattle.std.proofs.Common.{◌≡◌, ℕ, ◌<◌, true, List, [], ◌∷◌, ◌++◌, length, Some, ◌≤◌, None}
use Rattle.std.specs.List.{slice_get}
use Rattle.consumer_node.specs.inside.Names.{Owner, Effect, Removed, Agreement, effect_of, mapped, located, number_of, with_record, Base, Node, agreed_by, Meaning}
use Rattle.consumer_node.specs.inside.Names.{with_confirmed, apply, held_for, reset_of, IsBelowFirst}
use Rattle.node_rules.specs.Names.{NodeId, Side, Entry, Event, Record, Item, What, Mark}
use Rattle.node_rules.specs.Names.events
use Rattle.node_rules.specs.Names.items
use Rattle.node_rules.specs.Names.marks
use Rattle.node_rules.specs.Names.nodes
use Rattle.node_rules.specs.Names.whats
use Rattle.node_rules.proofs.Places.{Comes, IsTold, HasLearned, Places, Asks, unsent}
use Rattle.consumer_node.specs.States.{ConsumerState, applied_of, with_lanes, with_pending, cut_off, applied}
use Rattle.consumer_node.specs.Rules.{close_gone, is_wanted, hear_deliver, cut_to, close_all}
use Rattle.node_rules.specs.Turns.{Turn, started, own_of, agreed, count_known, put_own, store, send, show}
use Rattle.node_rules.specs.Rules.{learned, with_seen, with_tick}
use Rattle.consumer_node.specs.Steps.{restart}

-- an entry with this effect was told and learned, so that what every node has became this
pub record Knows {A : Type 0} (n : Node (ConsumerState A)) (event : Event) (after : Base) (effect : Effect) : Type 0 where
  pub before : Agreement
  pub entry : Entry
  pub learned : HasLearned (IsTold n event) after before entry
  pub has : effect_of before entry ≡ effect

-- the oldest record that is applied and not confirmed, and the owner of its position, which is covered
pub record Confirms {A : Type 0} (s : Node (ConsumerState A)) (rec : Record) (o : Owner) : Type 0 where
  pub oldest : slice_get s.own.pending 0 ≡ Some rec
  pub here : located (agreed_by s.base) s.own.confirmed ≡ Some o

module _ {A : Type 0} (app : Meaning A) (n : Node (ConsumerState A)) (event : Event) where
  -- a record was confirmed, and its output is this
  pub record HasConfirmed (s : Node (ConsumerState A)) (output : List ℕ) : Type 0 where
    pub old : Node (ConsumerState A)
    pub rec : Record
    pub owner : Owner
    pub confirms : Confirms old rec owner
    pub own : s.own ≡ with_confirmed app rec owner old.own
    pub gives : output ≡ app.output old.own.base rec

  pub data Says (s : Node (ConsumerState A)) : NodeId → What → Type 0 where
    fetches_wanted : (o : Owner) (side : Side) (position : ℕ) → event ≡ events.Tick → mapped (agreed_by s.base) position ≡ Some o
        → is_wanted s.own.lanes o ≡ true
        → Says s (nodes.Shard o.shard side) (whats.Fetch o.local)

  pub data Shows (s : Node (ConsumerState A)) : Mark → Type 0 where
    noticed : (shard first : ℕ) → Knows n event s.base (Removed shard first) → Shows s (marks.Notice first)
    undone : (shard first : ℕ) → Knows n event s.base (Removed shard first) → first < applied_of s.own → Shows s (marks.Undo first)
    applied_next : (rec : Record) → held_for (agreed_by s.base) s.own (applied_of s.own) ≡ Some rec → Shows s (marks.Apply (applied_of s.own) rec)
    confirmed : (rec : Record) (o : Owner) → Confirms s rec o → Shows s (marks.Confirm s.own.confirmed rec)
    written : (output : List ℕ) → 0 < length output → HasConfirmed s output → Shows s (marks.Out output)

  pub data Stores (s : Node (ConsumerState A)) : Item → ConsumerState A → Type 0 where
    confirms_oldest : (rec : Record) (o : Owner) → Confirms s rec o
        → Stores s (items.Confirmed rec (app.output s.own.base rec)) (with_confirmed app rec o s.own)

  pub data Changes (s : Node (ConsumerState A)) : ConsumerState A → Type 0 where
    holds_delivered : (from : NodeId) (local : ℕ) (rec : Record) → Comes n event from (whats.Deliver local rec)
        → Changes s (with_lanes (with_record s.own.lanes (number_of from) local rec) s.own)
    cuts_off : (shard first : ℕ) → Knows n event s.base (Removed shard first) → first < applied_of s.own → Changes s (cut_off first s.own)
    closes_gone : (effect : Effect) → Knows n event s.base effect → Changes s (close_gone (agreed_by s.base) s.own)
    applies_held : (rec : Record) → held_for (agreed_by s.base) s.own (applied_of s.own) ≡ Some rec → Changes s (with_pending (s.own.pending ++ rec ∷ []) s.own)

abbrev pub consumer_places : {A : Type 0} → Meaning A → Places (ConsumerState A)
consumer_places {A} app = record {
  Learns = IsTold;
  Says = Says app;
  Shows = Shows app;
  Stores = Stores app;
  Changes = Changes app;
  reset = reset_of;
  shown = λ n. marks.Undo n.own.confirmed ∷ [];
}

-- ---- stages

-- how far a step has come: it is between two rules; an entry with this effect is known; the Notice of a removal is shown; what
-- it moves is undone; all is applied that is held in order; a confirmed record's output is still to be shown
pub data Stage : Type 0 where
  between_rules : Stage
  entry_known : Effect → Stage
  removal_shown : ℕ → Stage
  undo_done : Stage
  all_applied : Stage
  output_due : List ℕ → Stage

-- the oldest record that is applied and not confirmed is stored with its output and shown, and counts as confirmed
abbrev pub confirmed_by : {A : Type 0} → Meaning A → Record → Owner → Turn (ConsumerState A) → Turn (ConsumerState A)
confirmed_by app rec o t =
    put_own (with_confirmed app rec o (own_of t))
    (show (marks.Confirm (own_of t).confirmed rec) (store (items.Confirmed rec (app.output (own_of t).base rec)) t))

-- what the places make of it that change the node, store or show
pub record StageSites {A : Type 0} (app : Meaning A) (Before After : Stage → Turn (ConsumerState A) → Type 0) (n : Node (ConsumerState A))
    (event : Event) : Type 0 where
  -- Deliver
  pub holds : (t : Turn (ConsumerState A)) (from : NodeId) (local : ℕ) (rec : Record) → Comes n event from (whats.Deliver local rec) → Before between_rules t
      → After between_rules (hear_deliver (number_of from) local rec t)
  -- a learned entry
  pub learns : (t : Turn (ConsumerState A)) (entry : Entry) → IsTold n event t.state entry → Before between_rules t
      → After (entry_known (effect_of (agreed t) entry)) (learned entry t)
  pub notices : (t : Turn (ConsumerState A)) (shard first : ℕ) → Before (entry_known (Removed shard first)) t
      → After (removal_shown first) (show (marks.Notice first) t)
  pub undoes : (t : Turn (ConsumerState A)) (first : ℕ) → first < applied t → Before (removal_shown first) t
      → After undo_done (show (marks.Undo first) (cut_to first t))
  pub undoes_none : (t : Turn (ConsumerState A)) (first : ℕ) → applied t ≤ first → Before (removal_shown first) t → After undo_done t
  pub moves_none : (t : Turn (ConsumerState A)) (effect : Effect) → ((position : ℕ) → IsBelowFirst effect position) → Before (entry_known effect) t
      → After undo_done t
  pub closes : (t : Turn (ConsumerState A)) → Before undo_done t → After between_rules (close_all t)
  -- the end of a step
  pub applies : (t : Turn (ConsumerState A)) (rec : Record) → held_for (agreed t) (own_of t) (applied t) ≡ Some rec → Before between_rules t
      → After between_rules (apply t rec)
  pub leaves_none : (t : Turn (ConsumerState A)) → held_for (agreed t) (own_of t) (applied t) ≡ None → Before between_rules t → After all_applied t
  pub confirms : (t : Turn (ConsumerState A)) (rec : Record) (o : Owner) → Confirms t.state rec o → Before all_applied t
      → After (output_due (app.output (own_of t).base rec)) (confirmed_by app rec o t)
  pub gives : (t : Turn (ConsumerState A)) (output : List ℕ) → 0 < length output → Before (output_due output) t → After all_applied (show (marks.Out output) t)
  pub gives_none : (t : Turn (ConsumerState A)) (output : List ℕ) → output ≡ [] → Before (output_due output) t → After all_applied t
  -- Restart
  pub restarts : event ≡ events.Restart → Before between_rules (started n) → After all_applied (restart n)

-- each place keeps what holds of a turn at each stage; a step that keeps it begins between rules, and ends with all applied
pub record StagedSites {A : Type 0} (app : Meaning A) (W : Stage → Turn (ConsumerState A) → Type 0) (n : Node (ConsumerState A)) (event : Event) : Type 0 where
  pub asks : (t : Turn (ConsumerState A)) (to : NodeId) → Asks n event t.state to → W between_rules t
      → W between_rules (send to (whats.Learn (count_known t)) t)
  pub says : (t : Turn (ConsumerState A)) (to : NodeId) (what : What) → Says app n event t.state to what → W between_rules t → W between_rules (send to what t)
  pub sees : (t : Turn (ConsumerState A)) (from : NodeId) (slot count : ℕ) (entry : Entry) → Comes n event from (whats.Decided slot count entry)
      → W between_rules t → W between_rules (with_seen count t)
  pub ticks : (t : Turn (ConsumerState A)) → event ≡ events.Tick → W between_rules t → W between_rules (with_tick t)
  pub rules : StageSites app W W n event

-- of a law that looks at no message, and neither at what the node was told nor at its ticks, the other places say nothing
abbrev pub Unsent : {A : Type 0} → (Stage → Turn (ConsumerState A) → Type 0) → Stage → Turn (ConsumerState A) → Type 0
Unsent V stage t = V stage (unsent t)

pub unsent_stages : {A : Type 0} (app : Meaning A) (V : Stage → Turn (ConsumerState A) → Type 0) (n : Node (ConsumerState A)) (event : Event)
    → StageSites app (Unsent V) (Unsent V) n event → StagedSites app (Unsent V) n event
unsent_stages app V n event s = record {
  asks = λ t to why w. w;
  says = λ t to what why w. w;
  sees = λ t from slot count entry comes w. w;
  ticks = λ t comes w. w;
  rules = s;
}
