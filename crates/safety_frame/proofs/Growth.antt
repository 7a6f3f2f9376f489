-- Lists of a past grow at their ends, so that what is told of them stays true as entries come.
use Rattle.std.proofs.Common.{List, [], ◌∷◌, ◌++◌, ℕ, filter_map, slice_index, ap}
use Rattle.std.proofs.lemmas.List.Elements.{filter_map-append}
use Rattle.net_model.specs.Pasts.{Past, sent, shown, marks_of, marks_at, submissions_of, body_at}
use Rattle.runs.specs.Names.{NodeId, Config, HistoryEntry}
use Rattle.runs.specs.Names.nodes
use Rattle.runs.specs.Marks.{IsPrefix}
use Rattle.runs.specs.Homes.{Home, home_in, homes_at}
use Rattle.safety_frame.specs.Gathered.{all_stored, stored_in, all_told, told_in}
use Rattle.safety_frame.proofs.Lists.{begins_itself, begins_more, begins_on}
use Rattle.safety_frame.proofs.Pasts.{reading_grows}

-- ---- one entry more

pub sent_grows : (e : HistoryEntry) (past : Past) → IsPrefix (sent past) (sent (e ∷ past))
sent_grows e past = begins_more (sent past) e.sends

pub shown_grows : (e : HistoryEntry) (past : Past) → IsPrefix (shown past) (shown (e ∷ past))
shown_grows e past = begins_more (shown past) e.marks

pub marks_grow : (node : NodeId) (e : HistoryEntry) (past : Past) → IsPrefix (marks_of node past) (marks_of node (e ∷ past))
marks_grow node e past = begins_more (marks_of node past) (marks_at node e)

pub submissions_grow : (node : NodeId) (e : HistoryEntry) (past : Past) → IsPrefix (submissions_of node past) (submissions_of node (e ∷ past))
submissions_grow node e past = begins_more (submissions_of node past) (body_at node e)

pub stored_grows : (cfg : Config) (e : HistoryEntry) (past : Past) → IsPrefix (all_stored cfg past) (all_stored cfg (e ∷ past))
stored_grows cfg e past = begins_more (all_stored cfg past) (stored_in cfg e past)

pub told_grows : (cfg : Config) (e : HistoryEntry) (past : Past) → IsPrefix (all_told cfg past) (all_told cfg (e ∷ past))
told_grows cfg e past = begins_more (all_told cfg past) (told_in cfg e past)

pub homes_grow : (cfg : Config) (client : ℕ) (e : HistoryEntry) (past : Past) → IsPrefix (homes_at cfg client past) (homes_at cfg client (e ∷ past))
homes_grow cfg client e past =
    let moved = reading_grows (filter_map home_in) (filter_map-append home_in) cfg (nodes.Client client) e past in
    (moved.0, ap (λ (l : List Home). record { shard = slice_index cfg.homes client; first = 0 } ∷ l) moved.1)

-- ---- any number of entries more

pub grows_on : {A : Type 0} (all : Past → List A) → ((e : HistoryEntry) (past : Past) → IsPrefix (all past) (all (e ∷ past))) → (later past : Past)
    → IsPrefix (all past) (all (later ++ past))
grows_on all grows [] past = begins_itself (all past)
grows_on all grows (e ∷ later) past =
    begins_on (all past) (all (later ++ past)) (all (e ∷ (later ++ past))) (grows_on all grows later past) (grows e (later ++ past))
