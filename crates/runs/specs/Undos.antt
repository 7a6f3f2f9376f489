-- A consumer's state is the fold of its applied list, and an undo has its notice.
use Rattle.std.specs.Prelude.{◌≡◌, ℕ, ◌<◌, ◌≤◌, List, [], ◌∷◌, ◌++◌, length}
use Rattle.net_model.specs.Pasts.{Past, Throughout, AfterEach, marks_of}
use Rattle.consumer_node.specs.Apps.{any_meaning}
use Rattle.consumer_node.specs.States.{app_state}
use Rattle.runs.specs.Names.{NodeId, Config, Event, Mark, HistoryEntry}
use Rattle.runs.specs.Names.nodes
use Rattle.runs.specs.Names.events
use Rattle.runs.specs.Names.marks
use Rattle.runs.specs.Kinds.{consumer_after}
use Rattle.runs.specs.Marks.{confirmations, applied_by, applied_log}
use Rattle.runs.specs.Outputs.{app_after}

-- the application's state is that after the applied list
abbrev pub StateIsOfApplied : Config → ℕ → Past → Type 0
StateIsOfApplied cfg consumer past = app_state any_meaning (consumer_after cfg consumer past).own ≡ app_after cfg (applied_log consumer past)

-- an undo without a notice is a restart's, back to what is confirmed
abbrev pub IsRestartUndo : Event → List Mark → ℕ → Type 0
IsRestartUndo events.Restart earlier first = first ≡ length (confirmations earlier)
IsRestartUndo (events.Submit by body) earlier first = ⊥
IsRestartUndo (events.Deliver message) earlier first = ⊥
IsRestartUndo events.Tick earlier first = ⊥
IsRestartUndo (events.Command command) earlier first = ⊥

-- of a step's marks, after the earlier ones: where more was applied than a notice leaves, the undo of just that stands
-- right after it, and else none does
abbrev pub UndosFollowNotices : Event → List Mark → List Mark → Type 0
UndosFollowNotices event earlier [] = Unit {0}
UndosFollowNotices event earlier (marks.Notice first ∷ marks.Undo position ∷ later) =
    (position ≡ first) × (first < length (applied_by earlier)) × UndosFollowNotices event (earlier ++ marks.Notice first ∷ marks.Undo position ∷ []) later
UndosFollowNotices event earlier (marks.Notice first ∷ later) =
    (length (applied_by earlier) ≤ first) × UndosFollowNotices event (earlier ++ marks.Notice first ∷ []) later
UndosFollowNotices event earlier (marks.Undo first ∷ later) =
    IsRestartUndo event earlier first × UndosFollowNotices event (earlier ++ marks.Undo first ∷ []) later
UndosFollowNotices event earlier (mark ∷ later) = UndosFollowNotices event (earlier ++ mark ∷ []) later

-- at a consumer
abbrev pub UndosAreDue : Past → HistoryEntry → NodeId → Type 0
UndosAreDue past e (nodes.Consumer number) = UndosFollowNotices e.event (marks_of (nodes.Consumer number) past) e.marks
UndosAreDue past e (nodes.Seq number) = Unit {0}
UndosAreDue past e (nodes.Shard shard side) = Unit {0}
UndosAreDue past e (nodes.Client number) = Unit {0}

pub record StateFollowsApplied (cfg : Config) (past : Past) : Type 0 where
  pub state : (consumer : ℕ) → AfterEach (StateIsOfApplied cfg consumer) past
  pub undos : Throughout (λ past e. UndosAreDue past e e.node) past
