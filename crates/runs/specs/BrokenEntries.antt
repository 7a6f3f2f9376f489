-- Entries of which the broken histories are made.
use Rattle.std.specs.Prelude.{List, ℕ, [], ◌∷◌}
use Rattle.net_model.specs.Pasts.{Past}
use Rattle.node_rules.specs.Examples.{single, q0, s0p, s0b, c0, k0, five, seven, comes}
use Rattle.runs.specs.Names.{NodeId, Config, Entry, Event, Record, Mark, HistoryEntry}
use Rattle.runs.specs.Names.events
use Rattle.runs.specs.Names.records
use Rattle.runs.specs.Names.marks
use Rattle.runs.specs.Names.whats

-- a tick at which a node shows this
abbrev pub shows : NodeId → List Mark → HistoryEntry
shows node shown = record { node = node; event = events.Tick; sends = []; marks = shown }

-- a step that sends nothing
abbrev pub does : NodeId → Event → List Mark → HistoryEntry
does node event shown = record { node = node; event = event; sends = []; marks = shown }

abbrev pub submits : List ℕ → HistoryEntry
submits body = does c0 (events.Submit 0 body) []

-- what Tally writes for a first record with the digit 5
abbrev pub five_out : Mark
five_out = marks.Out (53 ∷ 10 ∷ [])

-- the primary promises the record 5
abbrev pub promised : HistoryEntry
promised = shows s0p (marks.Promise 0 five ∷ [])

-- the consumer learns the first entry, and shows this
abbrev pub learns_first : Entry → List Mark → HistoryEntry
learns_first entry shown = does k0 (comes q0 k0 (whats.Decided 0 1 entry)) shown

-- the record 5 is handed to the consumer, which shows this
abbrev pub is_handed_five : List Mark → HistoryEntry
is_handed_five shown = does k0 (comes s0p k0 (whats.Deliver 0 five)) shown

-- a record that fills a place: it leaves every state, and gives no output
abbrev pub filling : Record
filling = records.Noop

-- ---- logs

-- three sequencers and one shard
abbrev pub triple : Config
triple = record single { seqs = 3 }

-- the primary holds the record, and then the backup too
abbrev pub append : HistoryEntry
append = does s0p (comes c0 s0p (whats.Append 0 0 (53 ∷ []))) []

abbrev pub replicate : HistoryEntry
replicate = does s0b (comes s0p s0b (whats.Replicate 0 five)) []

-- and so with a second record
abbrev append_second : HistoryEntry
append_second = does s0p (comes c0 s0p (whats.Append 0 1 (55 ∷ []))) []

abbrev replicate_second : HistoryEntry
replicate_second = does s0b (comes s0p s0b (whats.Replicate 1 seven)) []

-- both replicas hold two records
abbrev pub two_held : Past
two_held = replicate_second ∷ append_second ∷ replicate ∷ append ∷ []

-- the backup takes another record
abbrev pub replicate_other : HistoryEntry
replicate_other = does s0b (comes s0p s0b (whats.Replicate 0 seven)) []
