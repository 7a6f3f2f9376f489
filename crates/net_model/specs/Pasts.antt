-- A past: the entries of a history up to some moment, the newest first. What was sent, shown and submitted in it.
use Rattle.std.specs.Prelude.{ℕ, ◌⊎◌, Bool, true, false, ◌&&◌, IsFalse, if◌then◌else◌, List, [], ◌∷◌, ◌++◌, reverse}
use Rattle.msg_wire.specs.Nodes.{same_node}
use Rattle.net_model.specs.Names.{NodeId, Message, Event, Mark, HistoryEntry}
use Rattle.net_model.specs.Names.events

abbrev pub Past : Type 0
Past = List HistoryEntry

-- a history has its oldest entry first
abbrev pub past_of : List HistoryEntry → Past
past_of history = reverse history

-- ---- what was sent, shown and submitted, the oldest first

-- the messages of all nodes: each one's place is its number
abbrev pub sent : Past → List Message
sent [] = []
sent (e ∷ past) = sent past ++ e.sends

-- the marks of all nodes
abbrev pub shown : Past → List Mark
shown [] = []
shown (e ∷ past) = shown past ++ e.marks

-- an entry's marks, where it is the node's
abbrev pub marks_at : NodeId → HistoryEntry → List Mark
marks_at node e = if same_node e.node node then e.marks else []

-- the marks of one node, over all its restarts
abbrev pub marks_of : NodeId → Past → List Mark
marks_of node [] = []
marks_of node (e ∷ past) = marks_of node past ++ marks_at node e

-- the body that an event submits
abbrev pub body_in : Event → List (List ℕ)
body_in (events.Submit by body) = body ∷ []
body_in _ = []

abbrev pub body_at : NodeId → HistoryEntry → List (List ℕ)
body_at node e = if same_node e.node node then body_in e.event else []

-- the bodies that were submitted at a node: each one's place is its number
abbrev pub submissions_of : NodeId → Past → List (List ℕ)
submissions_of node [] = []
submissions_of node (e ∷ past) = submissions_of node past ++ body_at node e

-- ---- entry after entry

-- it holds of each entry, given those before it
abbrev pub Throughout : (Past → HistoryEntry → Type 0) → Past → Type 0
Throughout P [] = Unit {0}
Throughout P (e ∷ past) = P past e × Throughout P past

-- it holds after each entry
abbrev pub AfterEach : (Past → Type 0) → Past → Type 0
AfterEach P = Throughout (λ past e. P (e ∷ past))

abbrev pub is_restart : Event → Bool
is_restart events.Restart = true
is_restart (events.Submit by body) = false
is_restart (events.Deliver message) = false
is_restart events.Tick = false
is_restart (events.Command command) = false

abbrev pub is_restart_of : NodeId → HistoryEntry → Bool
is_restart_of node e = same_node e.node node && is_restart e.event

-- since a node's last restart, or else since the start, there was an entry of which it holds, given those before it
abbrev pub SinceRestart : NodeId → (Past → HistoryEntry → Type 0) → Past → Type 0
SinceRestart node P [] = ⊥
SinceRestart node P (e ∷ past) = IsFalse (is_restart_of node e) × (P past e ⊎ SinceRestart node P past)

-- what stood as the node's last restart was made; nothing where it made none
abbrev pub at_restart_or : Bool → Past → Past → Past
at_restart_or true now earlier = now
at_restart_or false now earlier = earlier

abbrev pub at_restart_of : NodeId → Past → Past
at_restart_of node [] = []
at_restart_of node (e ∷ past) = at_restart_or (is_restart_of node e) (e ∷ past) (at_restart_of node past)
