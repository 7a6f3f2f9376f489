-- The history that a script's inputs make, and the first input that is refused.
use Rattle.std.specs.Prelude.{ℕ, zero, suc, ◌+◌, ◌%◌, ◌==◌, Bool, not, nat_lt, nat_le, if◌then◌else◌, List, [], ◌∷◌, length, reverse, fold, find, Option, Some, None, slice_get}
use Rattle.std.specs.List.{range_with_len, list_any}
use Rattle.std.specs.Option.{option_map_or, option_or}
use Rattle.net_model.specs.Pasts.{Past, sent}
use Rattle.msg_wire.specs.Nodes.{nodes_of}
use Rattle.world.specs.declared.errors.PlayError.{PlayError}
use Rattle.world.specs.declared.errors.PlayError.TheVariants.{NoMessage, TooLong}
use Rattle.runs.specs.Names.{NodeId, Config, Message, Event, Input, HistoryEntry}
use Rattle.runs.specs.Names.nodes
use Rattle.runs.specs.Names.events
use Rattle.runs.specs.Names.inputs
use Rattle.runs.specs.Kinds.{step_at}

-- a script as it is played: the entries so far, the newest first; the numbers of the messages that were delivered or are
-- to be passed over; and the place of the node that a drain ticks next
pub record Playing : Type 0 where
  pub past : Past
  pub settled : List ℕ
  pub turn : ℕ

abbrev pub nothing_played : Playing
nothing_played = record { past = []; settled = []; turn = 0 }

-- ---- one entry

-- what a node does at an event, after the past
abbrev pub entry_made : Config → Past → NodeId → Event → HistoryEntry
entry_made cfg past node event = record {
  node = node;
  event = event;
  sends = (step_at cfg node past event).sends;
  marks = (step_at cfg node past event).marks;
}

abbrev pub happen : Config → NodeId → Event → Playing → Playing
happen cfg node event p = record p { past = entry_made cfg p.past node event ∷ p.past }

abbrev pub settle : ℕ → Playing → Playing
settle number p = record p { settled = number ∷ p.settled }

-- the message of a number comes to the node that it was sent to
abbrev pub deliver : Config → ℕ → Playing → Playing
deliver cfg number p =
    option_map_or (λ (m : Message). happen cfg m.to (events.Deliver m) (settle number p)) (slice_get (sent p.past) number) p

-- ---- drains

-- the number was neither delivered nor given up
abbrev pub is_open : Playing → ℕ → Bool
is_open p number = not (list_any (λ n. n == number) p.settled)

-- the least such number of a message that was sent
abbrev pub next_open : Playing → Option ℕ
next_open p = find (is_open p) (range_with_len 0 (length (sent p.past)))

-- the node whose turn it is ticks, and the turn goes to the node after it, in the order of nodes and round again
abbrev pub tick_next : Config → Playing → Playing
tick_next cfg p =
    option_map_or (λ node. happen cfg node events.Tick (record p { turn = (p.turn + 1) % length (nodes_of cfg) })) (slice_get (nodes_of cfg) p.turn) p

-- one input of a drain: the least open message comes, or else a node ticks
abbrev pub drain_once : Config → Playing → Playing
drain_once cfg p = option_map_or (λ number. deliver cfg number p) (next_open p) (tick_next cfg p)

-- so many, the last one outermost
abbrev pub drained : Config → ℕ → Playing → Playing
drained cfg zero p = p
drained cfg (suc count) p = drain_once cfg (drained cfg count p)

-- ---- inputs

abbrev pub played : Config → Playing → Input → Playing
played cfg p (inputs.Submit client body) = happen cfg (nodes.Client client) (events.Submit 0 body) p
played cfg p (inputs.Deliver number) = deliver cfg number p
played cfg p (inputs.Lose number) = settle number p
played cfg p (inputs.Tick node) = happen cfg node events.Tick p
played cfg p (inputs.Restart node) = happen cfg node events.Restart p
played cfg p (inputs.Command node command) = happen cfg node (events.Command command) p
played cfg p (inputs.Drain count) = drained cfg count p

abbrev pub played_all : Config → List Input → Playing
played_all cfg given = fold (played cfg) nothing_played given

-- the history that inputs make, from left to right, the oldest entry first
abbrev pub history_of : Config → List Input → List HistoryEntry
history_of cfg given = reverse (played_all cfg given).past

-- ---- refusals

-- how many entries an input brings
abbrev pub entries_of : Input → ℕ
entries_of (inputs.Lose number) = 0
entries_of (inputs.Drain count) = count
entries_of (inputs.Submit client body) = 1
entries_of (inputs.Deliver number) = 1
entries_of (inputs.Tick node) = 1
entries_of (inputs.Restart node) = 1
entries_of (inputs.Command node command) = 1

-- a message that was not sent yet
abbrev pub number_fault : ℕ → ℕ → ℕ → Option PlayError
number_fault at number count = if nat_lt number count then None else Some (NoMessage at number count)

abbrev pub message_fault : ℕ → Playing → Input → Option PlayError
message_fault at p (inputs.Deliver number) = number_fault at number (length (sent p.past))
message_fault at p (inputs.Lose number) = number_fault at number (length (sent p.past))
message_fault at p _ = None

-- a history has at most 200,000 entries; an input that brings none never passes that
abbrev pub length_fault : ℕ → Playing → Input → Option PlayError
length_fault at p given =
    if nat_le (length p.past + entries_of given) 200000 then None else Some (TooLong at)

abbrev pub input_fault : ℕ → Playing → Input → Option PlayError
input_fault at p given = option_or (message_fault at p given) (length_fault at p given)

-- an input that is refused isn't played
abbrev pub played_unless : Option PlayError → Config → Playing → Input → Playing
played_unless None cfg p given = played cfg p given
played_unless (Some fault) cfg p given = p

-- the first input that is refused, counted on from a place, and why: first that a message is none, then the length
abbrev pub fault_from : Config → ℕ → Playing → List Input → Option PlayError
fault_from cfg at p [] = None
fault_from cfg at p (given ∷ later) = option_or (input_fault at p given) (fault_from cfg (at + 1) (played_unless (input_fault at p given) cfg p given) later)

abbrev pub play_fault : Config → List Input → Option PlayError
play_fault cfg given = fault_from cfg 0 nothing_played given
