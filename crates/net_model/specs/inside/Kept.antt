-- A history as it is kept, in columns, and the entries that the columns tell.
use Rattle.std.specs.Prelude.{◌≡◌, ℕ, zero, suc, ◌<◌, ◌≤◌, List, [], ◌∷◌, ◌++◌, length, slice_get, slice_range}
use Rattle.std.specs.Option.{unwrap_or, option_map_or}
use Rattle.net_model.specs.declared.columns.Columns.{Columns}
use Rattle.net_model.specs.declared.steps.KeptStep.{KeptStep}
use Rattle.net_model.specs.declared.steps.Taken.{Taken}
use Rattle.net_model.specs.declared.steps.Taken.TheVariants as kept
use Rattle.net_model.specs.Names.{NodeId, Message, Mark, Event, HistoryEntry}
use Rattle.net_model.specs.Names.events

-- ---- what they tell

abbrev pub event_in : Columns → Taken → Event
event_in c (kept.Message number) = option_map_or events.Deliver (slice_get c.messages number) events.Tick
event_in c (kept.Whole place) = unwrap_or (slice_get c.events place) events.Tick
event_in c kept.Tick = events.Tick
event_in c kept.Restart = events.Restart

-- the entry of a step whose sends and marks begin at these places
abbrev pub entry_in : Columns → ℕ → ℕ → KeptStep → HistoryEntry
entry_in c from at s = record {
  node = s.node;
  event = event_in c s.taken;
  sends = slice_range c.messages from s.sends_end;
  marks = slice_range c.marks at s.marks_end;
}

-- the entries of steps, the first of which begins at these places
abbrev pub entries_in : Columns → ℕ → ℕ → List KeptStep → List HistoryEntry
entries_in c from at [] = []
entries_in c from at (s ∷ later) = entry_in c from at s ∷ entries_in c s.sends_end s.marks_end later

abbrev pub entries_of : Columns → List HistoryEntry
entries_of c = entries_in c 0 0 c.steps

-- where the sends of the step at an index begin, among steps the first of which begins there; past the end, where the last one ends
abbrev pub sends_before : ℕ → List KeptStep → ℕ → ℕ
sends_before from steps zero = from
sends_before from [] (suc index) = from
sends_before from (s ∷ later) (suc index) = sends_before s.sends_end later index

-- the same of the marks
abbrev pub marks_before : ℕ → List KeptStep → ℕ → ℕ
marks_before at steps zero = at
marks_before at [] (suc index) = at
marks_before at (s ∷ later) (suc index) = marks_before s.marks_end later index

-- ---- what holds of them

abbrev pub IsTakenIn : Columns → Taken → Type 0
IsTakenIn c (kept.Message number) = number < length c.messages
IsTakenIn c (kept.Whole place) = place < length c.events
IsTakenIn c kept.Tick = Unit {0}
IsTakenIn c kept.Restart = Unit {0}

-- a step that begins at these places lies within the columns
pub record IsStepIn (c : Columns) (from at : ℕ) (s : KeptStep) : Type 0 where
  pub taken : IsTakenIn c s.taken
  pub sends_rise : from ≤ s.sends_end
  pub sends_within : s.sends_end ≤ length c.messages
  pub marks_rise : at ≤ s.marks_end
  pub marks_within : s.marks_end ≤ length c.marks

-- steps follow one another, up to the ends of the columns
abbrev pub AreStepsIn : Columns → ℕ → ℕ → List KeptStep → Type 0
AreStepsIn c from at [] = (from ≡ length c.messages) × (at ≡ length c.marks)
AreStepsIn c from at (s ∷ later) = IsStepIn c from at s × AreStepsIn c s.sends_end s.marks_end later

abbrev pub IsWhole : Columns → Type 0
IsWhole c = AreStepsIn c 0 0 c.steps

-- ---- how they grow

abbrev pub no_columns : Columns
no_columns = record { steps = []; messages = []; marks = []; events = [] }

-- an event as it is kept next
abbrev pub taken_as : Columns → Event → Taken
taken_as c events.Tick = kept.Tick
taken_as c events.Restart = kept.Restart
taken_as c (events.Submit by body) = kept.Whole (length c.events)
taken_as c (events.Deliver message) = kept.Whole (length c.events)
taken_as c (events.Command command) = kept.Whole (length c.events)

abbrev pub with_whole : Columns → Event → Columns
with_whole c event = record c { events = c.events ++ event ∷ [] }

abbrev pub with_event : Columns → Event → Columns
with_event c events.Tick = c
with_event c events.Restart = c
with_event c (events.Submit by body) = with_whole c (events.Submit by body)
with_event c (events.Deliver message) = with_whole c (events.Deliver message)
with_event c (events.Command command) = with_whole c (events.Command command)

abbrev pub with_step : Columns → NodeId → Taken → List Message → List Mark → Columns
with_step c node taken sends marks = record c {
  steps = c.steps ++ record { node = node; taken = taken; sends_end = length (c.messages ++ sends); marks_end = length (c.marks ++ marks) } ∷ [];
  messages = c.messages ++ sends;
  marks = c.marks ++ marks;
}
