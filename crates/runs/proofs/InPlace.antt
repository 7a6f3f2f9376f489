-- Where a restart in place leaves what the stored items alone give, a node's progress is its life: what its steps leave,
-- one after another.
use Rattle.std.proofs.Common.{◌≡◌, Bool, true, false, List, [], ◌∷◌, ◌++◌, refl, sym, ap, ◌∙◌, subst}
use Rattle.std.specs.List.{AllByRecursion}
use Rattle.msg_wire.specs.Nodes.{same_node}
use Rattle.msg_wire.specs.Valid.{IsValidEvent}
use Rattle.net_model.specs.Pasts.{Past}
use Rattle.net_model.specs.Tables.{StepTable, Progress, state_after, one_step, step_if, progress_of}
use Rattle.node_rules.specs.Nodes.{Node}
use Rattle.node_rules.specs.Turns.{Turn, step_of}
use Rattle.node_rules.specs.Lives.{Life, life_of}
use Rattle.runs.specs.Names.{NodeId, Item, Event, HistoryEntry}
use Rattle.runs.specs.Names.events

-- ---- a node's own events, the newest first

abbrev pub with_event : Bool → Event → List Event → List Event
with_event true event taken = event ∷ taken
with_event false event taken = taken

abbrev pub events_of : NodeId → Past → List Event
events_of node [] = []
events_of node (e ∷ past) = with_event (same_node e.node node) e.event (events_of node past)

abbrev progress_in : {S : Type 0} → Life S → Progress (Node S)
progress_in life = record { stored = life.stored; state = life.node }

valid_before : (own : Bool) (event : Event) (taken : List Event) → AllByRecursion IsValidEvent (with_event own event taken) → AllByRecursion IsValidEvent taken
valid_before true event taken valid = valid.1
valid_before false event taken valid = valid

-- ---- a table that is given by its turns

module _ {S : Type 0} (step : Node S → Event → Turn S) (fresh : Node S) (restart : List Item → Node S) where
  abbrev pub table_of : StepTable (Node S)
  table_of = record {
    fresh = fresh;
    restart = restart;
    gives = λ n event. step_of (step n event);
    leaves = λ n event. (step n event).state;
  }

  -- after any valid events its step at a restart leaves what the stored items give
  abbrev pub RestartsInPlace : Type 0
  RestartsInPlace =
      (taken : List Event) → AllByRecursion IsValidEvent taken
      → (step (life_of step fresh taken).node events.Restart).state ≡ restart (life_of step fresh taken).stored

  -- a step of the table leaves what the turn leaves
  leaves_turn : (taken : List Event) (event : Event) → RestartsInPlace → AllByRecursion IsValidEvent taken
      → state_after table_of event (progress_in (life_of step fresh taken)) ≡ (step (life_of step fresh taken).node event).state
  leaves_turn taken events.Restart in_place valid = sym (in_place taken valid)
  leaves_turn taken _ in_place valid = refl

  goes_on_if : (own : Bool) (event : Event) (taken : List Event) (p : Progress (Node S)) → RestartsInPlace → AllByRecursion IsValidEvent taken
      → p ≡ progress_in (life_of step fresh taken) → step_if own table_of event p ≡ progress_in (life_of step fresh (with_event own event taken))
  goes_on_if true event taken p in_place valid e =
      let life : Life S = life_of step fresh taken in
      ap (one_step table_of event) e
      ∙ ap (λ (state : Node S). record { stored = life.stored ++ (step life.node event).stable; state = state }) (leaves_turn taken event in_place valid)
  goes_on_if false event taken p in_place valid e = e

  -- a node's progress is its life
  pub progress_is : (node : NodeId) (past : Past) → RestartsInPlace → AllByRecursion IsValidEvent (events_of node past)
      → progress_of table_of node past ≡ progress_in (life_of step fresh (events_of node past))
  progress_is node [] in_place valid = refl
  progress_is node (e ∷ past) in_place valid =
      let before = valid_before (same_node e.node node) e.event (events_of node past) valid in
      goes_on_if (same_node e.node node) e.event (events_of node past) (progress_of table_of node past) in_place before (progress_is node past in_place before)

  -- so a step of its own leaves what its turn leaves
  pub own_step : (node : NodeId) (e : HistoryEntry) (past : Past) → RestartsInPlace → AllByRecursion IsValidEvent (events_of node past)
      → same_node e.node node ≡ true
      → (progress_of table_of node (e ∷ past)).state ≡ (step (progress_of table_of node past).state e.event).state
  own_step node e past in_place valid own =
      let at : Progress (Node S) → Type 0 = λ p. state_after table_of e.event p ≡ (step p.state e.event).state in
      ap (λ (b : Bool). (step_if b table_of e.event (progress_of table_of node past)).state) own
      ∙ subst at (sym (progress_is node past in_place valid)) (leaves_turn (events_of node past) e.event in_place valid)

-- and a step of another node leaves it
pub other_step : {S : Type 0} → (table : StepTable S) (node : NodeId) (e : HistoryEntry) (past : Past) → same_node e.node node ≡ false
    → (progress_of table node (e ∷ past)).state ≡ (progress_of table node past).state
other_step table node e past other = ap (λ (b : Bool). (step_if b table e.event (progress_of table node past)).state) other
