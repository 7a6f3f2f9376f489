-- Since a node's last restart: what an entry more makes of it.
use Rattle.std.proofs.Common.{◌≡◌, ◌&&◌, Bool, true, false, ◌∷◌, ap, inl, inr}
use Rattle.msg_wire.specs.Nodes.{same_node}
use Rattle.net_model.specs.Pasts.{Past, SinceRestart, is_restart, is_restart_of, at_restart_or, at_restart_of}
use Rattle.runs.specs.Names.{NodeId, HistoryEntry}

module _ (node : NodeId) (e : HistoryEntry) where
  pub others_restart : same_node e.node node ≡ false → is_restart_of node e ≡ false
  others_restart other = ap (λ (b : Bool). b && is_restart e.event) other

  pub own_restart : same_node e.node node ≡ true → is_restart_of node e ≡ is_restart e.event
  own_restart own = ap (λ (b : Bool). b && is_restart e.event) own

  module _ (past : Past) where
    pub restart_now : is_restart_of node e ≡ true → at_restart_of node (e ∷ past) ≡ e ∷ past
    restart_now now = ap (λ (b : Bool). at_restart_or b (e ∷ past) (at_restart_of node past)) now

    pub restart_before : is_restart_of node e ≡ false → at_restart_of node (e ∷ past) ≡ at_restart_of node past
    restart_before up = ap (λ (b : Bool). at_restart_or b (e ∷ past) (at_restart_of node past)) up

    pub since_before : (P : Past → HistoryEntry → Type 0) → is_restart_of node e ≡ false → SinceRestart node P past → SinceRestart node P (e ∷ past)
    since_before P up since = (up, inr since)

    pub since_now : (P : Past → HistoryEntry → Type 0) → is_restart_of node e ≡ false → P past e → SinceRestart node P (e ∷ past)
    since_now P up here = (up, inl here)
