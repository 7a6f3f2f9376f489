-- Two runs worked out by hand, in which the premises of the laws are met: a record's whole way, and a client's move.
use Rattle.std.specs.Prelude.{◌≡◌, ℕ, ◌<◌, ◌+◌, List, [], ◌∷◌, length, Contains}
use Rattle.net_model.specs.Pasts.{Past, past_of, sent}
use Rattle.cut_core.specs.Map.{map_of, covered_locals}
use Rattle.node_rules.specs.Examples.{single, pair, q0, s0p, s0b, s1p, s1b, c0, k0, five, comes}
use Rattle.node_rules.specs.Examples as examples
use Rattle.runs.specs.Names.{NodeId, Entry, Event, Message, Mark, HistoryEntry}
use Rattle.runs.specs.Names.entries
use Rattle.runs.specs.Names.events
use Rattle.runs.specs.Names.commands
use Rattle.runs.specs.Names.marks
use Rattle.runs.specs.Names.whats
use Rattle.runs.specs.Runs.{IsPastOf}
use Rattle.runs.specs.Known.{agreed_after, known_at, agreed_at}
use Rattle.runs.specs.Chosen.{HasAccepted, IsChosen}
use Rattle.runs.specs.Speculating.{SpeculatesAfter, IsUnnoticed, IsMarked}
use Rattle.runs.specs.Homes.{Home, AreInTurn, GoesWith, HasRecordOf, BeginsWith}
use Rattle.runs.specs.Maps.{WasKnown}
use Rattle.runs.specs.Consumers.{positions_between}
use Rattle.runs.specs.FirstSteps.{steps}

abbrev pub entry : NodeId → Event → List Message → List Mark → HistoryEntry
entry node event sends shown = record { node = node; event = event; sends = sends; marks = shown }

-- ---- a record's whole way

-- the table of the first window once more, and its first round
abbrev pub same_table : Entry
same_table = entries.Table 0 2 (record { shard = 0; quota = 1 } ∷ [])

abbrev pub first_round : Entry
first_round = entries.Cut 0 0

-- the sequencer tells all others the entry of a slot
abbrev tells_all : ℕ → Entry → List Message
tells_all slot known =
    examples.sent q0 s0p (whats.Decided slot (slot + 1) known)
    ∷ examples.sent q0 s0b (whats.Decided slot (slot + 1) known)
    ∷ examples.sent q0 c0 (whats.Decided slot (slot + 1) known)
    ∷ examples.sent q0 k0 (whats.Decided slot (slot + 1) known)
    ∷ []

abbrev pub decided : NodeId → ℕ → Entry → Event
decided to slot known = comes q0 to (whats.Decided slot (slot + 1) known)

-- after the first steps the reports come to the sequencer, which decides to grant the same table again
abbrev pub table_granted : Past
table_granted =
    entry q0 (comes s0b q0 (whats.Report 1)) (tells_all 0 same_table) []
    ∷ entry q0 (comes s0p q0 (whats.Report 1)) [] []
    ∷ past_of steps

-- the record comes to the consumer, and the sequencer cuts the first round
abbrev pub record_applied : Past
record_applied =
    entry k0 (comes s0p k0 (whats.Deliver 0 five)) [] (marks.Apply 0 five ∷ [])
    ∷ entry q0 events.Tick (tells_all 1 first_round) []
    ∷ table_granted

-- the consumer learns both, and confirms the record
abbrev pub record_confirmed : Past
record_confirmed =
    entry k0 (decided k0 1 first_round) [] (marks.Confirm 0 five ∷ marks.Out (53 ∷ 10 ∷ []) ∷ [])
    ∷ entry k0 (decided k0 0 same_table) [] []
    ∷ record_applied

-- ---- a client's move

abbrev pub removal : Entry
removal = entries.Remove 0 0

-- shard 0 is removed, and its primary notices it
abbrev pub shard_removed : Past
shard_removed =
    entry s0p (decided s0p 0 removal) [] (marks.Notice 0 ∷ [])
    ∷ entry q0 (events.Command (commands.Remove 0))
    (examples.sent q0 s0p (whats.Decided 0 1 removal)
    ∷ examples.sent q0 s0b (whats.Decided 0 1 removal)
    ∷ examples.sent q0 s1p (whats.Decided 0 1 removal)
    ∷ examples.sent q0 s1b (whats.Decided 0 1 removal)
    ∷ examples.sent q0 c0 (whats.Decided 0 1 removal)
    ∷ examples.sent q0 k0 (whats.Decided 0 1 removal)
    ∷ [])
    []
    ∷ []

-- the client asks for the fate of its records, and moves to shard 1
abbrev pub client_moved : Past
client_moved =
    entry c0 (comes s0p c0 (whats.Fate 0)) [] []
    ∷ entry s0p (comes c0 s0p (whats.AskFate 0 0)) (examples.sent s0p c0 (whats.Fate 0) ∷ []) []
    ∷ entry c0 (decided c0 0 removal) (examples.sent c0 s0p (whats.AskFate 0 0) ∷ examples.sent c0 s0b (whats.AskFate 0 0) ∷ []) []
    ∷ shard_removed

-- there its first record is taken
abbrev pub record_taken : Past
record_taken =
    entry s1p (comes c0 s1p (whats.Append 0 0 (53 ∷ []))) (examples.sent s1p s1b (whats.Replicate 0 five) ∷ examples.sent s1p q0 (whats.Report 1) ∷ []) []
    ∷ entry c0 (events.Submit 0 (53 ∷ [])) (examples.sent c0 s1p (whats.Append 0 0 (53 ∷ [])) ∷ []) []
    ∷ client_moved

-- and copied
abbrev pub record_copied : Past
record_copied =
    entry s1b (comes s1p s1b (whats.Replicate 0 five)) (examples.sent s1b s1p (whats.Replicated 1) ∷ examples.sent s1b q0 (whats.Report 1) ∷ []) []
    ∷ record_taken

abbrev pub old_home : Home
old_home = record { shard = 0; first = 0 }

abbrev pub new_home : Home
new_home = record { shard = 1; first = 0 }

-- ---- what holds of them

pub record PremisesAreMet : Type 0 where
  pub way_is_a_run : IsPastOf single record_confirmed
  pub move_is_a_run : IsPastOf pair record_copied
  -- agreement
  pub accepted : HasAccepted single record_confirmed 1 0 first_round 0
  pub chosen : IsChosen single record_confirmed 1 first_round
  pub known : known_at single k0 record_confirmed ≡ same_table ∷ first_round ∷ []
  -- speculation
  pub promised : SpeculatesAfter record_confirmed s0p [] 0 five
  pub applied : SpeculatesAfter record_confirmed k0 [] 0 five
  pub unnoticed : IsUnnoticed record_confirmed
  pub marked : IsMarked record_confirmed 0 five
  -- logs
  pub reported : Contains (sent record_confirmed) (examples.sent s0p q0 (whats.Report 1))
  pub replicated : Contains (sent record_confirmed) (examples.sent s0b s0p (whats.Replicated 1))
  pub delivered : Contains (sent record_confirmed) (examples.sent s0p k0 (whats.Deliver 0 five))
  pub covered : covered_locals (agreed_at single k0 record_confirmed) 0 ≡ 1
  -- clients
  pub begins : BeginsWith record_confirmed 0 0 0
  pub in_turn : AreInTurn pair 0 record_copied old_home new_home
  pub goes : GoesWith pair 0 record_copied 0 [] removal
  pub has_record : HasRecordOf pair 0 record_copied 1 0
  -- maps
  pub was_known : WasKnown single record_confirmed (same_table ∷ first_round ∷ [])
  pub on_the_map : 0 < length (map_of (agreed_after single (same_table ∷ [])))
  -- consumers
  pub between : positions_between 0 record_applied ≡ 0 ∷ []
