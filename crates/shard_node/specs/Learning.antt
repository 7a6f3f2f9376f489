-- What a replica does at a learned entry.
use Rattle.std.specs.Prelude.{ℕ, ◌-◌, if◌then◌else◌, Option, Some, None, slice_get}
use Rattle.std.specs.List.{fold, range_with_len}
use Rattle.cut_core.specs.declared.effects.Effect.{Effect}
use Rattle.cut_core.specs.declared.effects.Effect.TheVariants.{Removed}
use Rattle.cut_core.specs.Agreements.{Agreement}
use Rattle.cut_core.specs.Effects.{effect_of}
use Rattle.cut_core.specs.Map.{covered_locals, placed}
use Rattle.node_rules.specs.Names.{Record, Entry}
use Rattle.node_rules.specs.Names.nodes
use Rattle.node_rules.specs.Names.records
use Rattle.node_rules.specs.Names.marks
use Rattle.node_rules.specs.Names.whats
use Rattle.node_rules.specs.Acting.{is_acting}
use Rattle.node_rules.specs.Turns.{Turn, me_of, own_of, agreed, put_own, send, show}
use Rattle.shard_node.specs.States.{ReplicaState, shard_of, log_of, covered_of, durable_to, with_promised}

-- the client of a record is told its position; a record that fills a place is nobody's
abbrev pub tell_client : ℕ → Record → Turn ReplicaState → Turn ReplicaState
tell_client position (records.Data client number body) t = send (nodes.Client client) (whats.Ack number position) t
tell_client position records.Noop t = t

-- a record is confirmed at its position; the acting replica tells its client
abbrev pub confirm_record : ℕ → Record → Turn ReplicaState → Turn ReplicaState
confirm_record position rec t =
    if is_acting (agreed t) (me_of t) then tell_client position rec (show (marks.Confirm position rec) t) else show (marks.Confirm position rec) t

-- where the local has a position and the log a record
abbrev pub confirm_at : Option ℕ → Option Record → Turn ReplicaState → Turn ReplicaState
confirm_at (Some position) (Some rec) t = confirm_record position rec t
confirm_at (Some position) None t = t
confirm_at None rec t = t

-- a local that is covered now
abbrev pub confirm : Turn ReplicaState → ℕ → Turn ReplicaState
confirm t local = confirm_at (placed (agreed t) (shard_of t) local) (slice_get (log_of t) local) t

-- the locals that are covered now and weren't before, rising
abbrev pub confirm_from : ℕ → Turn ReplicaState → Turn ReplicaState
confirm_from before t = fold confirm t (range_with_len before (covered_of t - before))

-- what is covered is durable
abbrev pub covered_is_durable : Turn ReplicaState → Turn ReplicaState
covered_is_durable t = put_own (durable_to (covered_of t) (own_of t)) t

-- a removal is noticed, and what was promised past the covered locals is promised anew
abbrev pub notice : Effect → Turn ReplicaState → Turn ReplicaState
notice (Removed shard first) t = put_own (with_promised (covered_of t) (own_of t)) (show (marks.Notice first) t)
notice _ t = t

-- a learned entry
abbrev pub on_learned : Agreement → Entry → Turn ReplicaState → Turn ReplicaState
on_learned before entry t = notice (effect_of before entry) (confirm_from (covered_locals before (shard_of t)) (covered_is_durable t))
