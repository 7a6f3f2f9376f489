-- The end of an acting replica's step: durable records that have a position are promised and delivered.
use Rattle.std.specs.Prelude.{ℕ, ◌+◌, ◌-◌, is_some, if◌then◌else◌, List, Option, Some, None, slice_get}
use Rattle.std.specs.List.{fold, range_with_len, take_while}
use Rattle.cut_core.specs.Map.{leased}
use Rattle.msg_wire.specs.Nodes.{consumers_of}
use Rattle.node_rules.specs.Names.{Record}
use Rattle.node_rules.specs.Names.marks
use Rattle.node_rules.specs.Names.whats
use Rattle.node_rules.specs.Acting.{is_acting}
use Rattle.node_rules.specs.Turns.{Turn, cfg_of, me_of, own_of, agreed, put_own, send_all, show}
use Rattle.shard_node.specs.States.{ReplicaState, shard_of, log_of, with_promised}

-- the position that the known windows lease to a local
abbrev pub lease_at : Turn ReplicaState → ℕ → Option ℕ
lease_at t local = leased (agreed t) (shard_of t) local

-- the durable locals from the promised ones on, up to the first that has no position
abbrev pub to_promise : Turn ReplicaState → List ℕ
to_promise t = take_while (λ local. is_some (lease_at t local)) (range_with_len (own_of t).promised ((own_of t).durable - (own_of t).promised))

-- a record is promised at its position, and delivered to every consumer
abbrev pub promise_record : Option ℕ → Option Record → ℕ → Turn ReplicaState → Turn ReplicaState
promise_record (Some position) (Some rec) local t =
    send_all (consumers_of (cfg_of t)) (whats.Deliver local rec) (show (marks.Promise position rec) t)
promise_record (Some position) None local t = t
promise_record None rec local t = t

-- one more local is promised
abbrev pub promise : Turn ReplicaState → ℕ → Turn ReplicaState
promise t local =
    put_own (with_promised (local + 1) (own_of t)) (promise_record (lease_at t local) (slice_get (log_of t) local) local t)

-- all that can be promised is
abbrev pub promise_some : Turn ReplicaState → Turn ReplicaState
promise_some t = fold promise t (to_promise t)

-- an acting replica promises all that it can
abbrev pub promise_all : Turn ReplicaState → Turn ReplicaState
promise_all t = if is_acting (agreed t) (me_of t) then promise_some t else t
