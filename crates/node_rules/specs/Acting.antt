-- Which replica acts for a shard, by what is agreed: it takes what clients append, is filled up, and promises. That is the primary.
use Rattle.std.specs.Prelude.{ℕ, Bool}
use Rattle.cut_core.specs.Agreements.{Agreement}
use Rattle.msg_wire.specs.Nodes.{is_primary}
use Rattle.node_rules.specs.Names.{NodeId}
use Rattle.node_rules.specs.Names.nodes
use Rattle.node_rules.specs.Names.sides

abbrev pub acting : Agreement → ℕ → NodeId
acting agreed shard = nodes.Shard shard sides.Primary

-- whether the node acts for its shard
abbrev pub is_acting : Agreement → NodeId → Bool
is_acting agreed node = is_primary node
