-- A turn: what a step has made of a node so far, and what it stores, sends and shows.
use Rattle.std.specs.Prelude.{ℕ, List, [], ◌∷◌, ◌++◌, map, length}
use Rattle.cut_core.specs.Agreements.{Agreement}
use Rattle.node_rules.specs.Names.{NodeId, Config, Entry, Item, Message, What, Mark, Step}
pub use Rattle.msg_wire.specs.Steps.{empty_step}
use Rattle.node_rules.specs.Nodes.{Base, Node, agreed_by}

pub record Turn (S : Type 0) : Type 0 where
  pub state : Node S
  pub stable : List Item
  pub sends : List Message
  pub marks : List Mark

-- the node as it is, and nothing done
abbrev pub started : {S : Type 0} → Node S → Turn S
started n = record { state = n; stable = []; sends = []; marks = [] }

-- a node, and what a step of it has given so far
abbrev pub turn_of : {S : Type 0} → Node S → Step → Turn S
turn_of n step = record { state = n; stable = step.stable; sends = step.sends; marks = step.marks }

-- what a turn gives to those outside the node
abbrev pub step_of : {S : Type 0} → Turn S → Step
step_of t = record { stable = t.stable; sends = t.sends; marks = t.marks }

-- ---- what a turn's node has

abbrev pub cfg_of : {S : Type 0} → Turn S → Config
cfg_of t = t.state.base.cfg

abbrev pub me_of : {S : Type 0} → Turn S → NodeId
me_of t = t.state.base.me

abbrev pub own_of : {S : Type 0} → Turn S → S
own_of t = t.state.own

abbrev pub known_of : {S : Type 0} → Turn S → List Entry
known_of t = t.state.base.known

-- how many entries it knows: the slot of the next one
abbrev pub count_known : {S : Type 0} → Turn S → ℕ
count_known t = length (known_of t)

abbrev pub agreed : {S : Type 0} → Turn S → Agreement
agreed t = agreed_by t.state.base

-- ---- what a rule does

-- what every node has becomes this
abbrev pub put_base : {S : Type 0} → Base → Turn S → Turn S
put_base base t = record t { state = record { base = base; own = t.state.own } }

-- what the node's kind has becomes this
abbrev pub put_own : {S : Type 0} → S → Turn S → Turn S
put_own own t = record t { state = record { base = t.state.base; own = own } }

-- an item is stored
abbrev pub store : {S : Type 0} → Item → Turn S → Turn S
store item t = record t { stable = t.stable ++ item ∷ [] }

-- a message to a node
abbrev pub message_to : {S : Type 0} → Turn S → What → NodeId → Message
message_to t what to = record { from = me_of t; to = to; what = what }

-- something is sent to a node
abbrev pub send : {S : Type 0} → NodeId → What → Turn S → Turn S
send to what t = record t { sends = t.sends ++ message_to t what to ∷ [] }

-- the same is sent to each of the nodes, in order
abbrev pub send_all : {S : Type 0} → List NodeId → What → Turn S → Turn S
send_all tos what t = record t { sends = t.sends ++ map (message_to t what) tos }

-- something is shown
abbrev pub show : {S : Type 0} → Mark → Turn S → Turn S
show mark t = record t { marks = t.marks ++ mark ∷ [] }
