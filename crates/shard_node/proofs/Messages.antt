-- What a replica says of its log stays true while the log grows.
use Rattle.std.proofs.Common.{List, ◌++◌, ◌∙◌, arith}
use Rattle.std.proofs.lemmas.List.{length-append}
use Rattle.std.proofs.lemmas.Option.{slice_get_within}
use Rattle.fix_ante.proofs.Entries.{slice_get_append_left}
use Rattle.node_rules.specs.Names.{NodeId, Record, Item, What, Event}
use Rattle.node_rules.specs.Names.whats
use Rattle.node_rules.specs.Nodes.{Node}
use Rattle.node_rules.proofs.Telling.{telling}
use Rattle.node_rules.proofs.Places.{same_own}
use Rattle.shard_node.specs.States.{ReplicaState}
use Rattle.shard_node.specs.Messages.{IsTrueOf, MessagesAreTrue}
use Rattle.shard_node.proofs.Places.{Says, Stores, Changes, reports, copies, tells_length, promises, fetched, appends, copied, fills, holds, replica_places}
use Rattle.shard_node.proofs.Walk.{replica_walk}

said : (n : Node ReplicaState) (event : Event) (s : Node ReplicaState) (to : NodeId) (what : What) → Says n event s to what → IsTrueOf s.own.log what
said n event s to _ (reports _ i at) = omega arith
said n event s to _ (tells_length _ local rec comes) = omega arith
said n event s _ _ (copies local rec primary at) = at
said n event s to _ (promises _ i position rec there why) = why.at
said n event s to _ (fetched _ local rec comes durable at) = at
said n event s to _ _ = tt

grows : (log more : List Record) (what : What) → IsTrueOf log what → IsTrueOf (log ++ more) what
grows log more (whats.Report len) before = omega (arith, before, length-append log more)
grows log more (whats.Replicated len) before = omega (arith, before, length-append log more)
grows log more (whats.Replicate local rec) before = slice_get_append_left log more local (slice_get_within log local rec before) ∙ before
grows log more (whats.Deliver local rec) before = slice_get_append_left log more local (slice_get_within log local rec before) ∙ before
grows log more _ before = tt

stored : (n : Node ReplicaState) (event : Event) (s : Node ReplicaState) (item : Item) (own : ReplicaState) (what : What) → Stores n event s item own
    → IsTrueOf s.own.log what → IsTrueOf own.log what
stored n event s _ _ what (appends from first number body comes there low room expected) so_far = grows s.own.log _ what so_far
stored n event s _ _ what (copied from rec comes room) so_far = grows s.own.log _ what so_far
stored n event s _ _ what (fills from wanted comes there short) so_far = grows s.own.log _ what so_far

changed : (n : Node ReplicaState) (event : Event) (s : Node ReplicaState) (own : ReplicaState) (what : What) → Changes n event s own
    → IsTrueOf s.own.log what → IsTrueOf own.log what
changed n event s _ what (holds from len comes) said = said
changed n event s _ what _ said = said

pub messages_are_true : MessagesAreTrue
messages_are_true n event =
    replica_walk _ n event
    (telling replica_places same_own (λ s m. IsTrueOf s.own.log m.what) n event
    (record {
      asks = λ s to why. tt;
      says = said n event;
      learns = λ s entry m why holds. holds;
      sees = λ s count m holds. holds;
      ticks = λ s m holds. holds;
      stores = λ s item own m why holds. stored n event s item own m.what why holds;
      changes = λ s own m why holds. changed n event s own m.what why holds;
    }))
