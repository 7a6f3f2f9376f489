-- The places of a client's table at which it sends, shows or stores, and what is known there.
use Rattle.std.proofs.Common.{◌≡◌, ℕ, ◌+◌, ◌%◌, ◌<◌, ◌≤◌, ◌^◌, true, List, [], length, Some}
use Rattle.std.specs.Prelude.{is_some}
use Rattle.std.specs.List.{slice_get}
use Rattle.fix_ante.specs.declared.spots.Spot.{Spot}
use Rattle.cut_core.specs.Map.{gone_end}
use Rattle.msg_wire.specs.Nodes.{number_of, replicas_of}
use Rattle.node_rules.specs.Names.{NodeId, Item, What, Mark, Event}
use Rattle.node_rules.specs.Names.nodes
use Rattle.node_rules.specs.Names.sides
use Rattle.node_rules.specs.Names.items
use Rattle.node_rules.specs.Names.marks
use Rattle.node_rules.specs.Names.whats
use Rattle.node_rules.specs.Names.events
use Rattle.node_rules.specs.Nodes.{Node, agreed_by}
use Rattle.node_rules.proofs.Places.{Comes, IsTold, Places}
use Rattle.client_node.specs.States.{ClientState, reach}
use Rattle.client_node.specs.Rules.{with_body, with_ack, with_home}
use Rattle.client_node.specs.Restart.{reset_of}

-- the known entries say that its home is gone
abbrev pub IsHomeGone : Node ClientState → Type 0
IsHomeGone s = is_some (gone_end (agreed_by s.base) s.own.home) ≡ true

-- the row of the current window that is the client's by its number
abbrev pub IsRowFor : Node ClientState → Spot → Type 0
IsRowFor s row = slice_get (agreed_by s.base).current.spots (number_of s.base.me % length (agreed_by s.base).current.spots) ≡ Some row

pub data Says (n : Node ClientState) (event : Event) (s : Node ClientState) : NodeId → What → Type 0 where
  sends_body : (number : ℕ) (body : List ℕ) → s.own.acked ≤ number → number < s.own.acked + reach → slice_get s.own.bodies number ≡ Some body
      → Says n event s (nodes.Shard s.own.home sides.Primary) (whats.Append s.own.first number body)
  asks_fate : (to : NodeId) (i : ℕ) → slice_get (replicas_of s.own.home) i ≡ Some to → IsHomeGone s → Says n event s to (whats.AskFate s.own.first s.own.acked)

pub data Shows (n : Node ClientState) (event : Event) (s : Node ClientState) : Mark → Type 0 where
  acknowledged : (from : NodeId) (number position : ℕ) → Comes n event from (whats.Ack number position) → s.own.acked ≡ number + 1
      → Shows n event s (marks.Ack number position)

pub data Stores (n : Node ClientState) (event : Event) (s : Node ClientState) : Item → ClientState → Type 0 where
  submits : (by : ℕ) (body : List ℕ) → event ≡ events.Submit by body → length s.own.bodies < 2 ^ 48
      → Stores n event s (items.Submitted body) (with_body body s.own)
  counts : (from : NodeId) (number position : ℕ) → Comes n event from (whats.Ack number position) → number ≡ s.own.acked → number < 2 ^ 48
      → Stores n event s items.Acked (with_ack s.own)
  moves : (from : NodeId) (next : ℕ) (row : Spot) → Comes n event from (whats.Fate next) → number_of from ≡ s.own.home → IsHomeGone s → next ≡ s.own.acked
      → IsRowFor s row
      → Stores n event s (items.Moved row.shard next) (with_home row.shard next s.own)

abbrev pub client_places : Places ClientState
client_places = record { Learns = IsTold; Says = Says; Shows = Shows; Stores = Stores; Changes = λ n event s own. ⊥; reset = reset_of; shown = λ n. [] }
