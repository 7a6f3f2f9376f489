-- When the merge of journals is a run: each journal follows its node's table, and what is delivered was sent with a smaller stamp.
use Rattle.std.specs.Prelude.{◌≡◌, ℕ, ◌<◌, List, Contains}
use Rattle.std.specs.List.{AllByRecursion}
use Rattle.net_model.specs.declared.journal.Stamped.{Stamped}
use Rattle.net_model.specs.Names.{NodeId, Message, Event, HistoryEntry}
use Rattle.net_model.specs.Names.events
use Rattle.net_model.specs.Pasts.{Past, past_of, sent, Throughout}
use Rattle.net_model.specs.Tables.{StepTable, state_of}
use Rattle.net_model.specs.Journals.{OwnSteps, IsJournal, all_steps}
use Rattle.net_model.specs.Merges.{past_in, IsMergeOf}

-- ---- of a past

-- what an event delivers was sent before
abbrev pub WasSent : Past → Event → Type 0
WasSent past (events.Deliver message) = Contains (sent past) message
WasSent past (events.Submit by body) = Unit {0}
WasSent past events.Tick = Unit {0}
WasSent past events.Restart = Unit {0}
WasSent past (events.Command command) = Unit {0}

-- an entry sends and shows what its node's table says, from the state that the node's earlier entries leave
pub record IsStepBy {S : NodeId → Type 0} (tables : (node : NodeId) → StepTable (S node)) (past : Past) (e : HistoryEntry) : Type 0 where
  pub sends : e.sends ≡ ((tables e.node).gives (state_of (tables e.node) e.node past) e.event).sends
  pub shows : e.marks ≡ ((tables e.node).gives (state_of (tables e.node) e.node past) e.event).marks

-- and what it takes was sent before
pub record GoesBy {S : NodeId → Type 0} (tables : (node : NodeId) → StepTable (S node)) (past : Past) (e : HistoryEntry) : Type 0 where
  pub step : IsStepBy tables past e
  pub comes : WasSent past e.event

-- ---- of journals

-- in each journal it holds of each entry, given the node's earlier ones
abbrev pub InEach : (Past → HistoryEntry → Type 0) → List OwnSteps → Type 0
InEach P = AllByRecursion (λ (j : OwnSteps). Throughout P (past_in j.steps))

-- a message was sent by a step with a stamp below this
pub record IsSentBelow (steps : List Stamped) (message : Message) (stamp : ℕ) : Type 0 where
  pub by : Stamped
  pub there : Contains steps by
  pub below : by.stamp < stamp
  pub sends : Contains by.entry.sends message

-- each delivered message was sent by a step of a journal, with a smaller stamp
abbrev pub DeliveriesAreSent : List OwnSteps → Type 0
DeliveriesAreSent journals =
    (x : Stamped) (message : Message) → Contains (all_steps journals) x → x.entry.event ≡ events.Deliver message
    → IsSentBelow (all_steps journals) message x.stamp

-- the merge of journals that follow tables follows them, whatever the tables
abbrev pub MergesFollow : {S : NodeId → Type 0} → ((node : NodeId) → StepTable (S node)) → Type 0
MergesFollow tables =
    (journals : List OwnSteps) (history : List HistoryEntry) → AllByRecursion IsJournal journals → InEach (IsStepBy tables) journals
    → DeliveriesAreSent journals
    → IsMergeOf journals history → Throughout (GoesBy tables) (past_of history)
