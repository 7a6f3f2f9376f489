-- The nodes of a cluster, in the order in which sends to several of them go, and tests of nodes.
use Rattle.std.specs.Prelude.{ℕ, Bool, true, false, ◌&&◌, ◌==◌, not, nat_lt, List, [], ◌∷◌, ◌++◌, map, length, filter}
use Rattle.std.specs.List.{range_with_len, flat_map}
use Rattle.msg_wire.specs.Names.{NodeId, Side, Config}
use Rattle.msg_wire.specs.Names.nodes
use Rattle.msg_wire.specs.Names.sides

abbrev pub sequencers_of : Config → List NodeId
sequencers_of c = map nodes.Seq (range_with_len 0 c.seqs)

-- a shard's primary, then its backup
abbrev pub replicas_of : ℕ → List NodeId
replicas_of shard = nodes.Shard shard sides.Primary ∷ nodes.Shard shard sides.Backup ∷ []

abbrev pub all_replicas_of : Config → List NodeId
all_replicas_of c = flat_map replicas_of (range_with_len 0 c.shards)

abbrev pub clients_of : Config → List NodeId
clients_of c = map nodes.Client (range_with_len 0 (length c.homes))

abbrev pub consumers_of : Config → List NodeId
consumers_of c = map nodes.Consumer (range_with_len 0 c.consumers)

-- all nodes: sequencers, replicas by shard, clients, consumers
abbrev pub nodes_of : Config → List NodeId
nodes_of c = sequencers_of c ++ (all_replicas_of c ++ (clients_of c ++ consumers_of c))

-- ---- tests

abbrev pub is_node_of : Config → NodeId → Bool
is_node_of c (nodes.Seq number) = nat_lt number c.seqs
is_node_of c (nodes.Shard number side) = nat_lt number c.shards
is_node_of c (nodes.Client number) = nat_lt number (length c.homes)
is_node_of c (nodes.Consumer number) = nat_lt number c.consumers

abbrev pub is_sequencer : NodeId → Bool
is_sequencer (nodes.Seq number) = true
is_sequencer (nodes.Shard number side) = false
is_sequencer (nodes.Client number) = false
is_sequencer (nodes.Consumer number) = false

abbrev pub is_primary : NodeId → Bool
is_primary (nodes.Shard number sides.Primary) = true
is_primary (nodes.Shard number sides.Backup) = false
is_primary (nodes.Seq number) = false
is_primary (nodes.Client number) = false
is_primary (nodes.Consumer number) = false

abbrev pub is_replica : NodeId → Bool
is_replica (nodes.Shard number side) = true
is_replica (nodes.Seq number) = false
is_replica (nodes.Client number) = false
is_replica (nodes.Consumer number) = false

abbrev pub is_backup : NodeId → Bool
is_backup node = is_replica node && not (is_primary node)

abbrev pub is_client : NodeId → Bool
is_client (nodes.Client number) = true
is_client (nodes.Seq number) = false
is_client (nodes.Shard number side) = false
is_client (nodes.Consumer number) = false

abbrev pub is_consumer : NodeId → Bool
is_consumer (nodes.Consumer number) = true
is_consumer (nodes.Seq number) = false
is_consumer (nodes.Shard number side) = false
is_consumer (nodes.Client number) = false

-- a node's number among its kind; a replica's is that of its shard
abbrev pub number_of : NodeId → ℕ
number_of (nodes.Seq number) = number
number_of (nodes.Shard number side) = number
number_of (nodes.Client number) = number
number_of (nodes.Consumer number) = number

abbrev pub same_side : Side → Side → Bool
same_side sides.Primary sides.Primary = true
same_side sides.Primary sides.Backup = false
same_side sides.Backup sides.Primary = false
same_side sides.Backup sides.Backup = true

abbrev pub same_node : NodeId → NodeId → Bool
same_node (nodes.Seq a) (nodes.Seq b) = a == b
same_node (nodes.Shard a s) (nodes.Shard b t) = (a == b) && same_side s t
same_node (nodes.Client a) (nodes.Client b) = a == b
same_node (nodes.Consumer a) (nodes.Consumer b) = a == b
same_node _ _ = false

-- two replicas of one shard
abbrev pub same_shard : NodeId → NodeId → Bool
same_shard a b = (is_replica a && is_replica b) && (number_of a == number_of b)

-- the nodes but one
abbrev pub without_node : NodeId → List NodeId → List NodeId
without_node node = filter (λ other. not (same_node other node))
