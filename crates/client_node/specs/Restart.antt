-- A client at its start, after a restart, and as the items of its vault give it.
use Rattle.std.specs.Prelude.{ℕ, ◌^◌, nat_lt, if◌then◌else◌, List, length, slice_index}
use Rattle.std.specs.List.{fold}
use Rattle.msg_wire.specs.Nodes.{number_of}
use Rattle.node_rules.specs.Names.{NodeId, Config, Item}
use Rattle.node_rules.specs.Names.items
use Rattle.node_rules.specs.Nodes.{Node, fresh_base, reset_base, fit_known, with_own}
use Rattle.client_node.specs.States.{ClientState, fresh_client}
use Rattle.client_node.specs.Rules.{with_body, with_ack, with_home}

-- at the home that the cluster gives it
abbrev pub fresh_node : Config → NodeId → Node ClientState
fresh_node cfg me = record { base = fresh_base cfg me; own = fresh_client (slice_index cfg.homes (number_of me)) }

abbrev pub fit_body : List ℕ → Node ClientState → Node ClientState
fit_body body n = if nat_lt (length n.own.bodies) (2 ^ 48) then with_own (with_body body n.own) n else n

abbrev pub fit_ack : Node ClientState → Node ClientState
fit_ack n = if nat_lt n.own.acked (2 ^ 48) then with_own (with_ack n.own) n else n

-- one more item of the vault; one that doesn't fit is passed over
abbrev pub fit : Node ClientState → Item → Node ClientState
fit n (items.Known entry) = fit_known entry n
fit n (items.Submitted body) = fit_body body n
fit n items.Acked = fit_ack n
fit n (items.Moved shard first) = with_own (with_home shard first n.own) n
fit n _ = n

-- what the items alone give
abbrev pub restart_of : Config → NodeId → List Item → Node ClientState
restart_of cfg me stored = fold fit (fresh_node cfg me) stored

-- what a restart leaves: all but what it was told of and the ticks
abbrev pub reset_of : Node ClientState → Node ClientState
reset_of n = record n { base = reset_base n.base }
