-- Worked steps of a consumer.
use Rattle.std.specs.Prelude.{◌≡◌, ℕ, List, [], ◌∷◌, ◌++◌, length}
use Rattle.node_rules.specs.Names.{Message, Record, Event}
use Rattle.node_rules.specs.Names.entries
use Rattle.node_rules.specs.Names.events
use Rattle.node_rules.specs.Names.items
use Rattle.node_rules.specs.Names.marks
use Rattle.node_rules.specs.Names.records
use Rattle.node_rules.specs.Names.whats
use Rattle.node_rules.specs.Turns.{Turn, step_of}
use Rattle.node_rules.specs.Examples.{pair, q0, s0p, s0b, s1p, s1b, k0, five, seven, comes, sent, step, nothing}
use Rattle.consumer_node.specs.Apps.{Meaning}
use Rattle.consumer_node.specs.States.{ConsumerState, app_state}
use Rattle.consumer_node.specs.Steps.{consumer_step}
use Rattle.consumer_node.specs.Restart.{fresh_node, restart_of}

-- an application whose state is the bodies so far, joined, and which writes them out
abbrev body_of : Record → List ℕ
body_of (records.Data client number body) = body
body_of records.Noop = []

abbrev joined : Meaning (List ℕ)
joined = record { fresh = λ kind. []; next = λ state rec. state ++ body_of rec; output = λ state rec. state ++ body_of rec }

abbrev then_step : Turn (ConsumerState (List ℕ)) → Event → Turn (ConsumerState (List ℕ))
then_step t event = consumer_step joined t.state event

-- ---- a removal takes back what was applied of the shard

abbrev early : Turn (ConsumerState (List ℕ))
early = consumer_step joined (fresh_node joined pair k0) (comes s0p k0 (whats.Deliver 0 five))

abbrev undone : Turn (ConsumerState (List ℕ))
undone = then_step early (comes q0 k0 (whats.Decided 0 1 (entries.Remove 0 0)))

abbrev too_late : Turn (ConsumerState (List ℕ))
too_late = then_step undone (comes s0p k0 (whats.Deliver 0 five))

abbrev other_shard : Turn (ConsumerState (List ℕ))
other_shard = then_step too_late (comes s1p k0 (whats.Deliver 0 seven))

-- the window after the removal has the number 1; a cut covers its first round
abbrev confirmed : Turn (ConsumerState (List ℕ))
confirmed = then_step other_shard (comes q0 k0 (whats.Decided 1 2 (entries.Cut 1 0)))

-- ---- two shards side by side

-- the record of position 1 waits for that of position 0
abbrev waiting : Turn (ConsumerState (List ℕ))
waiting = consumer_step joined (fresh_node joined pair k0) (comes s1b k0 (whats.Deliver 0 seven))

abbrev both : Turn (ConsumerState (List ℕ))
both = then_step waiting (comes s0p k0 (whats.Deliver 0 five))

abbrev both_confirmed : Turn (ConsumerState (List ℕ))
both_confirmed = then_step both (comes q0 k0 (whats.Decided 0 1 (entries.Cut 0 0)))

-- both replicas of both shards are asked for a local
abbrev fetches : ℕ → List Message
fetches local =
    sent k0 s0p (whats.Fetch local) ∷ sent k0 s0b (whats.Fetch local) ∷ sent k0 s1p (whats.Fetch local) ∷ sent k0 s1b (whats.Fetch local) ∷ []

pub record Worked : Type 0 where
  pub applied_early : step_of early ≡ step [] [] (marks.Apply 0 five ∷ [])
  pub again_is_left : step_of (then_step early (comes s0b k0 (whats.Deliver 0 five))) ≡ nothing
  pub removal_undoes : step_of undone ≡ step (items.Known (entries.Remove 0 0) ∷ []) [] (marks.Notice 0 ∷ marks.Undo 0 ∷ [])
  pub gone_shard_is_left : step_of too_late ≡ nothing
  pub other_shard_is_applied : step_of other_shard ≡ step [] [] (marks.Apply 0 seven ∷ [])
  pub cut_confirms : step_of confirmed ≡ step (items.Known (entries.Cut 1 0) ∷ items.Confirmed seven (55 ∷ []) ∷ []) [] (marks.Confirm 0 seven ∷ marks.Out (55 ∷ []) ∷ [])
  pub state_is_the_fold : app_state joined other_shard.state.own ≡ 55 ∷ []
  pub later_waits : step_of waiting ≡ nothing
  pub both_are_applied : step_of both ≡ step [] [] (marks.Apply 0 five ∷ marks.Apply 1 seven ∷ [])
  -- the second output is that of the state after the first record
  pub both_are_confirmed : step_of both_confirmed ≡ step (items.Known (entries.Cut 0 0) ∷ items.Confirmed five (53 ∷ []) ∷ items.Confirmed seven (53 ∷ 55 ∷ []) ∷ []) []
      (marks.Confirm 0 five ∷ marks.Out (53 ∷ []) ∷ marks.Confirm 1 seven ∷ marks.Out (53 ∷ 55 ∷ []) ∷ [])
  pub tick_fetches : step_of (consumer_step joined (fresh_node joined pair k0) events.Tick) ≡ step [] (sent k0 q0 (whats.Learn 0) ∷ fetches 0 ++ (fetches 1 ++ (fetches 2 ++ fetches 3))) []
  pub held_is_not_fetched : length (then_step waiting events.Tick).sends ≡ 15
  -- restarts
  pub restart_undoes : step_of (then_step early events.Restart) ≡ step [] [] (marks.Undo 0 ∷ [])
  pub restart_is_the_items : (then_step confirmed events.Restart).state ≡ restart_of joined pair k0 (items.Known (entries.Remove 0 0) ∷ items.Known (entries.Cut 1 0) ∷ items.Confirmed seven (55 ∷ []) ∷ [])
  pub uncovered_items_are_passed_over : restart_of joined pair k0 (items.Confirmed five (53 ∷ []) ∷ []) ≡ fresh_node joined pair k0
