-- A client's rules, one for each event and kind of message.
use Rattle.std.specs.Prelude.{ℕ, ◌+◌, ◌%◌, ◌^◌, ◌==◌, ◌&&◌, Bool, not, nat_lt, if◌then◌else◌, List, [], ◌∷◌, ◌++◌, length, slice_get, Option}
use Rattle.std.specs.List.{fold}
use Rattle.std.specs.Option.{option_map_or}
use Rattle.fix_ante.specs.declared.spots.Spot.{Spot}
use Rattle.cut_core.specs.Agreements.{Agreement}
use Rattle.msg_wire.specs.Nodes.{number_of}
use Rattle.node_rules.specs.Names.{NodeId, Entry}
use Rattle.node_rules.specs.Names.items
use Rattle.node_rules.specs.Names.marks
use Rattle.node_rules.specs.Names.whats
use Rattle.node_rules.specs.Acting.{acting}
use Rattle.node_rules.specs.Turns.{Turn, me_of, own_of, agreed, put_own, store, send, send_all, show}
use Rattle.node_rules.specs.Rules.{tick}
use Rattle.client_node.specs.States.{ClientState, count_submitted, home_replicas, is_home_gone, reach, is_in_reach, numbers_in_reach}

-- ---- what a client sends

-- the body of a number to the home's acting replica, where it was submitted
abbrev pub append : Turn ClientState → ℕ → Turn ClientState
append t number =
    option_map_or (λ body. send (acting (agreed t) (own_of t).home) (whats.Append (own_of t).first number body) t)
    (slice_get (own_of t).bodies number) t

-- each submitted body in reach
abbrev pub append_all : Turn ClientState → Turn ClientState
append_all t = fold append t (numbers_in_reach t)

-- both replicas of a home that is gone are asked what became of the records
abbrev pub ask_fate : Turn ClientState → Turn ClientState
ask_fate t = send_all (home_replicas t) (whats.AskFate (own_of t).first (own_of t).acked) t

-- ---- Submit

abbrev pub with_body : List ℕ → ClientState → ClientState
with_body body s = record s { bodies = s.bodies ++ body ∷ [] }

-- a number in reach is sent at once, while the home is there
abbrev pub append_new : ℕ → Turn ClientState → Turn ClientState
append_new number t = if is_in_reach number t && not (is_home_gone t) then append t number else t

abbrev pub submitted : List ℕ → Turn ClientState → Turn ClientState
submitted body t = append_new (count_submitted t) (put_own (with_body body (own_of t)) (store (items.Submitted body) t))

-- Submit: the body is stored; numbers end at 2^48
abbrev pub submit : List ℕ → Turn ClientState → Turn ClientState
submit body t = if nat_lt (count_submitted t) (2 ^ 48) then submitted body t else t

-- ---- Ack

abbrev pub with_ack : ClientState → ClientState
with_ack s = record s { acked = s.acked + 1 }

-- after an acknowledged number the one that comes into reach is sent, or the fate of the rest asked for
abbrev pub go_on : ℕ → Turn ClientState → Turn ClientState
go_on number t = if is_home_gone t then ask_fate t else append t (number + reach)

abbrev pub acknowledged : ℕ → ℕ → Turn ClientState → Turn ClientState
acknowledged number position t =
    go_on number (put_own (with_ack (own_of t)) (show (marks.Ack number position) (store items.Acked t)))

-- Ack, where it is of the least number without one; numbers end at 2^48
abbrev pub hear_ack : ℕ → ℕ → Turn ClientState → Turn ClientState
hear_ack number position t =
    if (number == (own_of t).acked) && nat_lt number (2 ^ 48) then acknowledged number position t else t

-- ---- a learned entry

-- after each one while the home is gone, the fate of the records is asked for
abbrev pub on_learned : Agreement → Entry → Turn ClientState → Turn ClientState
on_learned before entry t = if is_home_gone t then ask_fate t else t

-- ---- Fate

abbrev pub with_home : ℕ → ℕ → ClientState → ClientState
with_home home first s = record s { home = home; first = first }

-- the row of the current window that is the client's by its number
abbrev pub row_for : Turn ClientState → Option Spot
row_for t = slice_get (agreed t).current.spots (number_of (me_of t) % length (agreed t).current.spots)

-- it moves: the new home is stored, and each submitted body in reach is sent there
abbrev pub move_to : ℕ → Spot → Turn ClientState → Turn ClientState
move_to first row t = append_all (put_own (with_home row.shard first (own_of t)) (store (items.Moved row.shard first) t))

-- the home is gone, and all numbers below the next one are acknowledged
abbrev pub may_move : NodeId → ℕ → Turn ClientState → Bool
may_move from next t = (number_of from == (own_of t).home) && (is_home_gone t && (next == (own_of t).acked))

-- Fate from a replica of the home
abbrev pub hear_fate : NodeId → ℕ → Turn ClientState → Turn ClientState
hear_fate from next t = if may_move from next t then option_map_or (λ row. move_to next row t) (row_for t) t else t

-- ---- Tick

-- it asks for the fate of its records where the home is gone, else it sends what is in reach once more
abbrev pub send_again : Turn ClientState → Turn ClientState
send_again t = if is_home_gone t then ask_fate t else append_all t

-- Tick
abbrev pub on_tick : Turn ClientState → Turn ClientState
on_tick t = send_again (tick t)
