-- Where a node stands among all nodes.
use Rattle.std.specs.Prelude.{ℕ, ◌+◌, ◌*◌, length}
use Rattle.msg_wire.specs.declared.config.Config.{Config}
use Rattle.msg_wire.specs.Names.{NodeId}
use Rattle.msg_wire.specs.Names.nodes
use Rattle.msg_wire.specs.Names.sides

-- the place of a node in the order of nodes, from 0
abbrev pub rank_of : Config → NodeId → ℕ
rank_of c (nodes.Seq number) = number
rank_of c (nodes.Shard number sides.Primary) = c.seqs + 2 * number
rank_of c (nodes.Shard number sides.Backup) = c.seqs + 2 * number + 1
rank_of c (nodes.Client number) = c.seqs + 2 * c.shards + number
rank_of c (nodes.Consumer number) = c.seqs + 2 * c.shards + length c.homes + number
