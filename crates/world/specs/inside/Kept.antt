-- A player as it is kept.
use Rattle.std.specs.Prelude.{◌≡◌, ◌<◌, ℕ, false, List, length, slice_get, IsSomeAnd}
use Rattle.net_model.specs.Pasts.{past_of}
use Rattle.msg_wire.specs.Nodes.{nodes_of}
use Rattle.node_rules.specs.Turns.{empty_step}
use Rattle.runs.specs.Names.{Step}
use Rattle.world.specs.AnyNodes.{is_spent_any}
use Rattle.world.specs.declared.any_node.AnyNode.{AnyNode}
use Rattle.world.specs.declared.player.Parts.{Parts}
use Rattle.world.specs.declared.player.Player.TheInside.{Inside}
use Rattle.world.specs.inside.PlayerSteps.{PlayerState, IsPlayerOf}

abbrev pub shown_by : Parts → PlayerState
shown_by p = record { cfg = p.cfg; past = past_of p.history; settled = p.outbox; turn = p.turn }

abbrev pub player_of : Inside → PlayerState
player_of i = shown_by i.parts.value

pub record AreParts (p : Parts) : Type 0 where
  pub order : p.order.items ≡ nodes_of p.cfg
  pub turn : p.turn < length (nodes_of p.cfg)
  pub played : IsPlayerOf p.cfg (past_of p.history) p.nodes.items p.outbox
  pub between : p.step ≡ empty_step

abbrev pub IsPlayer : Inside → Type 0
IsPlayer i = AreParts i.parts.value

-- the node at a place can take a step, and the step that it is written into gives nothing yet
abbrev pub IsReadyAt : ℕ → List AnyNode → Step → Type 0
IsReadyAt place made out = IsSomeAnd (slice_get made place) (λ node. is_spent_any node ≡ false) × (out ≡ empty_step)
