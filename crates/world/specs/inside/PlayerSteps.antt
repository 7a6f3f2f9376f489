-- A script as it is played, with a flag for each message instead of the list of the settled ones.
use Rattle.std.specs.Prelude.{◌≡◌, ℕ, zero, suc, ◌+◌, ◌%◌, ◌<◌, ◌==◌, Bool, true, false, not, List, [], ◌∷◌, ◌++◌, map, length, replicate, slice_get, slice_set}
use Rattle.std.specs.List.{AllByRecursion, range_with_len, list_any, position_from}
use Rattle.std.specs.Option.{option_map_or}
use Rattle.net_model.specs.Pasts.{Past, sent}
use Rattle.msg_wire.specs.Nodes.{nodes_of}
use Rattle.msg_wire.specs.Valid.{IsValidConfig, IsNodeOf, IsValidEvent, IsCommandOf}
use Rattle.msg_wire.specs.Steps.{IsEventAt, AreValidMessages}
use Rattle.world.specs.declared.any_node.AnyNode.{AnyNode}
use Rattle.runs.specs.Names.{NodeId, Config, Message, Event, Input, HistoryEntry}
use Rattle.runs.specs.Names.nodes
use Rattle.runs.specs.Names.events
use Rattle.runs.specs.Names.inputs
use Rattle.world.specs.AnyNodes.{node_after}
use Rattle.runs.specs.Runs.{Comes, IsPastOf}
use Rattle.world.specs.Playing.{Playing, entry_made}

-- the cluster; the entries so far, the newest first; of each message whether it was delivered or is to be passed over; and
-- the place of the node that a drain ticks next
pub record PlayerState : Type 0 where
  pub cfg : Config
  pub past : Past
  pub settled : List Bool
  pub turn : ℕ

-- ---- what is kept of a script as it is played

abbrev pub is_settled : Playing → ℕ → Bool
is_settled p number = list_any (λ n. n == number) p.settled

abbrev pub flags_of : Playing → List Bool
flags_of p = map (is_settled p) (range_with_len 0 (length (sent p.past)))

abbrev pub kept_of : Config → Playing → PlayerState
kept_of cfg p = record { cfg = cfg; past = p.past; settled = flags_of p; turn = p.turn }

-- its entries, of which refusals speak
abbrev pub played_of : PlayerState → Playing
played_of s = record { past = s.past; settled = []; turn = s.turn }

-- ---- what an input makes of it

abbrev pub with_entry : HistoryEntry → PlayerState → PlayerState
with_entry e s = record s { past = e ∷ s.past; settled = s.settled ++ replicate (length e.sends) false }

abbrev pub happens : NodeId → Event → PlayerState → PlayerState
happens node event s = with_entry (entry_made s.cfg s.past node event) s

abbrev pub settles : ℕ → PlayerState → PlayerState
settles number s = record s { settled = slice_set s.settled number true }

abbrev pub delivers : ℕ → PlayerState → PlayerState
delivers number s =
    option_map_or (λ (m : Message). happens m.to (events.Deliver m) (settles number s)) (slice_get (sent s.past) number) s

abbrev pub ticks_next : PlayerState → PlayerState
ticks_next s =
    option_map_or (λ node. happens node events.Tick (record s { turn = (s.turn + 1) % length (nodes_of s.cfg) })) (slice_get (nodes_of s.cfg) s.turn) s

abbrev pub drains_once : PlayerState → PlayerState
drains_once s = option_map_or (λ number. delivers number s) (position_from not 0 s.settled) (ticks_next s)

abbrev pub drains : ℕ → PlayerState → PlayerState
drains zero s = s
drains (suc count) s = drains_once (drains count s)

abbrev pub plays : PlayerState → Input → PlayerState
plays s (inputs.Submit client body) = happens (nodes.Client client) (events.Submit 0 body) s
plays s (inputs.Deliver number) = delivers number s
plays s (inputs.Lose number) = settles number s
plays s (inputs.Tick node) = happens node events.Tick s
plays s (inputs.Restart node) = happens node events.Restart s
plays s (inputs.Command node command) = happens node (events.Command command) s
plays s (inputs.Drain count) = drains count s

-- ---- what holds of it

-- a command's shards have nodes
abbrev pub IsCommandAt : Config → Event → Type 0
IsCommandAt c (events.Command command) = IsCommandOf c command
IsCommandAt c (events.Submit by body) = Unit {0}
IsCommandAt c (events.Deliver message) = Unit {0}
IsCommandAt c events.Tick = Unit {0}
IsCommandAt c events.Restart = Unit {0}

abbrev pub AreCommandsOf : Config → Past → Type 0
AreCommandsOf c = AllByRecursion (λ (e : HistoryEntry). IsCommandAt c e.event)

-- the past is a run's; each node is as the past leaves it; each message is valid, and its flag is kept
pub record IsPlayerOf (c : Config) (past : Past) (made : List AnyNode) (settled : List Bool) : Type 0 where
  pub cfg : IsValidConfig c
  pub run : IsPastOf c past
  pub commands : AreCommandsOf c past
  pub messages : AreValidMessages (sent past)
  pub nodes_are : made ≡ map (node_after c past) (nodes_of c)
  pub flags : length settled ≡ length (sent past)

-- the message that an input names was sent
abbrev pub IsSentBefore : ℕ → Input → Type 0
IsSentBefore count (inputs.Deliver number) = number < count
IsSentBefore count (inputs.Lose number) = number < count
IsSentBefore count _ = Unit {0}

-- a node can take an event
pub record CanTake (c : Config) (past : Past) (node : NodeId) (event : Event) : Type 0 where
  pub within : IsNodeOf c node
  pub valid : IsValidEvent event
  pub taken_there : IsEventAt node event
  pub comes : Comes past node event
  pub command : IsCommandAt c event
