-- Which messages a node heeds: those of its cluster that go from and to the classes of their kind, and come from another node.
use Rattle.std.specs.Prelude.{Bool, true, ◌&&◌, not}
use Rattle.msg_wire.specs.Names.{NodeId, Config, Message, What}
use Rattle.msg_wire.specs.Names.whats
use Rattle.msg_wire.specs.Nodes.{is_node_of, is_sequencer, is_primary, is_backup, is_replica, is_client, is_consumer, same_node, same_shard}

-- the classes between which a kind of message goes
abbrev pub goes_between : What → NodeId → NodeId → Bool
goes_between (whats.Append first number body) from to = is_client from && is_primary to
goes_between (whats.Ack number position) from to = is_replica from && is_client to
goes_between (whats.AskFate first least) from to = is_client from && is_replica to
goes_between (whats.Fate next) from to = is_replica from && is_client to
goes_between (whats.Replicate local rec) from to = (is_primary from && is_backup to) && same_shard from to
goes_between (whats.Replicated len) from to = (is_backup from && is_primary to) && same_shard from to
goes_between (whats.Report len) from to = is_replica from && is_sequencer to
goes_between (whats.Fill wanted) from to = is_sequencer from && is_primary to
goes_between (whats.Deliver local rec) from to = is_replica from && is_consumer to
goes_between (whats.Fetch local) from to = is_consumer from && is_replica to
goes_between (whats.Prepare slot ballot) from to = is_sequencer from && is_sequencer to
goes_between (whats.Promise slot ballot accepted) from to = is_sequencer from && is_sequencer to
goes_between (whats.Accept slot ballot entry) from to = is_sequencer from && is_sequencer to
goes_between (whats.Accepted slot ballot) from to = is_sequencer from && is_sequencer to
goes_between (whats.Decided slot count entry) from to = is_sequencer from
goes_between (whats.Learn slot) from to = is_sequencer to

-- a message that came to its receiver, from another node of the cluster, between the classes of its kind
abbrev pub is_heeded : Config → NodeId → Message → Bool
is_heeded c me m =
    (same_node m.to me && is_node_of c m.from) && (not (same_node m.from m.to) && goes_between m.what m.from m.to)
