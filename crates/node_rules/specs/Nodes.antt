-- A node: what every kind has, and what its own kind has.
use Rattle.std.specs.Prelude.{◌≡◌, Bool, if◌then◌else◌, List, IsTrue}
use Rattle.std.specs.List.{fold}
use Rattle.msg_wire.specs.Valid.{IsValidConfig, IsNodeOf, AreValidItems}
use Rattle.node_rules.specs.Names.{NodeId, Config, Entry, Item}
pub use Rattle.node_rules.specs.Bases.{Base, fresh_base, first_window, agreed_by, has_slot, knowing, seeing, ticking, asked_by, reset_base}
use Rattle.node_rules.specs.declared.node.Node.{Node as NodeOf}

-- a base, and what the node's kind has
abbrev pub Node : Type 0 → Type 0
Node S = NodeOf S

-- a Known item of a vault fits where there is a slot for it
abbrev pub fit_known : {S : Type 0} → Entry → Node S → Node S
fit_known entry n = if has_slot n.base then record n { base = knowing entry n.base } else n

-- what the items of a vault alone give: a node at its start takes one after the other, and makes an end
abbrev pub restart_by : {S : Type 0} → (Config → NodeId → Node S) → (Node S → Item → Node S) → (Node S → Node S) → Config → NodeId → List Item → Node S
restart_by fresh fit settled cfg me items = settled (fold fit (fresh cfg me) items)

-- a node of a kind that the items of a vault give, before the end is made
pub record IsFitted {S : Type 0} (is_kind : NodeId → Bool) (fresh : Config → NodeId → Node S) (fit : Node S → Item → Node S) (n : Node S) : Type 0 where
  pub cfg : Config
  pub me : NodeId
  pub items : List Item
  pub valid : IsValidConfig cfg
  pub here : IsNodeOf cfg me
  pub kind : IsTrue (is_kind me)
  pub each : AreValidItems items
  pub is : n ≡ fold fit (fresh cfg me) items

-- another part of its own
abbrev pub with_own : {S : Type 0} → S → Node S → Node S
with_own own n = record n { own = own }

-- a node's core: the node, and whether it is spent, as it is after a step that was refused memory
pub record Core (S : Type 0) : Type 0 where
  pub node : Node S
  pub spent : Bool
