-- A replica at its start, after a restart, and as the items of its vault give it.
use Rattle.std.specs.Prelude.{◌+◌, ◌^◌, nat_le, if◌then◌else◌, List, [], ◌∷◌, ◌++◌, length, replicate}
use Rattle.std.specs.List.{fold}
use Rattle.cut_core.specs.Map.{covered_locals}
use Rattle.msg_wire.specs.Nodes.{number_of}
use Rattle.node_rules.specs.Names.{NodeId, Config, Record, Item}
use Rattle.node_rules.specs.Names.records
use Rattle.node_rules.specs.Names.items
use Rattle.node_rules.specs.Nodes.{Node, fresh_base, reset_base, agreed_by, fit_known, with_own}
use Rattle.shard_node.specs.States.{ReplicaState, fresh_replica, replica_with, with_log}

abbrev pub fresh_node : Config → NodeId → Node ReplicaState
fresh_node cfg me = record { base = fresh_base cfg me; own = fresh_replica }

-- more records at the log's end, where there is room
abbrev pub fit_records : List Record → Node ReplicaState → Node ReplicaState
fit_records recs n =
    if nat_le (length n.own.log + length recs) (2 ^ 48) then with_own (with_log (n.own.log ++ recs) n.own) n else n

-- one more item of the vault; one that doesn't fit is passed over
abbrev pub fit : Node ReplicaState → Item → Node ReplicaState
fit n (items.Known entry) = fit_known entry n
fit n (items.Taken rec) = fit_records (rec ∷ []) n
fit n (items.Noops count) = fit_records (replicate count records.Noop) n
fit n _ = n

-- what a restart leaves: the known entries and the log, durable and promised as far as it is covered
abbrev pub reset_of : Node ReplicaState → Node ReplicaState
reset_of n = record {
  base = reset_base n.base;
  own = replica_with n.own.log (covered_locals (agreed_by n.base) (number_of n.base.me));
}

-- what the items alone give
abbrev pub restart_of : Config → NodeId → List Item → Node ReplicaState
restart_of cfg me stored = reset_of (fold fit (fresh_node cfg me) stored)
