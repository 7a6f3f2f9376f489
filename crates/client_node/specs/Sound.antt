-- What holds of every client.
use Rattle.std.specs.Prelude.{◌≤◌, ◌^◌, length}
use Rattle.std.specs.List.{AllByRecursion}
use Rattle.msg_wire.specs.Valid.{IsBody}
use Rattle.node_rules.specs.Nodes.{Node}
use Rattle.node_rules.specs.Sound.{IsBase}
use Rattle.client_node.specs.States.{ClientState}

-- its bodies, its counts and its home are within their limits
pub record IsOwn (s : ClientState) : Type 0 where
  pub bodies : AllByRecursion IsBody s.bodies
  pub few : length s.bodies ≤ 2 ^ 48
  pub acked : s.acked ≤ 2 ^ 48
  pub home : s.home ≤ 5
  pub first : s.first ≤ 2 ^ 48

pub record IsClient (n : Node ClientState) : Type 0 where
  pub base : IsBase n.base
  pub own : IsOwn n.own
