-- A replica sends to nodes of the cluster alone.
use Rattle.std.proofs.Common.{◌≡◌, ◌-◌, ◌<◌, true, List, [], ◌∷◌, ◌++◌, length, replicate, refl, sym, subst}
use Rattle.std.specs.Prelude.{min}
use Rattle.std.specs.List.{AllByRecursion}
use Rattle.std.proofs.lemmas.Bool.{and_parts}
use Rattle.msg_wire.specs.Nodes.{is_client, is_primary, number_of, sequencers_of, consumers_of}
use Rattle.msg_wire.specs.Valid.{IsValidConfig, IsNodeOf}
use Rattle.node_rules.specs.Names.{NodeId, Config, Record, What, Item, Event}
use Rattle.node_rules.specs.Names.nodes
use Rattle.node_rules.specs.Names.records
use Rattle.node_rules.specs.Names.whats
use Rattle.node_rules.specs.Nodes.{Node}
use Rattle.node_rules.proofs.Lists.{all_append, all_replicate, all_at}
use Rattle.node_rules.proofs.Places.{Comes}
use Rattle.node_rules.proofs.Within.{HasClient, SaysWithin, TakesWithin, IsWithin, StaysWithin, ComesWithin, comes_within, told_within, sequencers_within, consumers_within, KeepsWithin, staying}
use Rattle.shard_node.specs.States.{ReplicaState}
use Rattle.shard_node.specs.Steps.{replica_step}
use Rattle.shard_node.proofs.Places.{Says, Stores, Changes, reports, copies, tells_length, promises, fetched, confirms, acks_again, acks_fate, fates, appends, copied, fills, holds, replica_places}
use Rattle.shard_node.proofs.Walk.{replica_walk}

-- its shard has nodes, and the records of its log are of the cluster's clients
pub record HasShard (c : Config) (me : NodeId) (own : ReplicaState) : Type 0 where
  pub shard : number_of me < c.shards
  pub clients : AllByRecursion (HasClient c) own.log

abbrev IsIn : Config → Node ReplicaState → Type 0
IsIn c s = IsWithin c ReplicaState (HasShard c) s

-- what comes from a client of the cluster is of a client of the cluster
client_within : (c : Config) (from : NodeId) → IsNodeOf c from → is_client from ≡ true → number_of from < length c.homes
client_within c (nodes.Client n) here e = here
client_within c (nodes.Seq n) here e = absurd (cc)
client_within c (nodes.Shard n side) here e = absurd (cc)
client_within c (nodes.Consumer n) here e = absurd (cc)

longer : (c : Config) (s : Node ReplicaState) (recs : List Record) (own : ReplicaState) → own.log ≡ s.own.log ++ recs → AllByRecursion (HasClient c) recs
    → IsIn c s → HasShard c s.base.me own
longer c s recs own e has is =
    let all : AllByRecursion (HasClient c) (s.own.log ++ recs) = all_append (HasClient c) s.own.log recs is.own.clients has in
    record { shard = is.own.shard; clients = subst (AllByRecursion (HasClient c)) (sym e) all }

module _ (c : Config) (n : Node ReplicaState) (event : Event) (begins : IsIn c n) (takes : TakesWithin c event) where
  came : (from : NodeId) (what : What) → Comes n event from what → ComesWithin c from what
  came from what comes = comes_within n event from what comes begins takes

  says_within : (s : Node ReplicaState) (to : NodeId) (what : What) → Says n event s to what → IsIn c s → IsNodeOf c to × SaysWithin c what
  says_within s to _ (reports _ i at) is = (all_at (IsNodeOf c) (sequencers_of s.base.cfg) i to (sequencers_within c s.base.cfg is.cfg) at, tt)
  says_within s _ _ (copies local rec primary at) is = (is.own.shard, all_at (HasClient c) s.own.log local rec is.own.clients at)
  says_within s from _ (tells_length _ local rec comes) is = ((came from _ comes).from_within, tt)
  says_within s to _ (promises _ i position rec there why) is = (all_at (IsNodeOf c) (consumers_of s.base.cfg) i to (consumers_within c s.base.cfg is.cfg) there, tt)
  says_within s from _ (fetched _ local rec comes durable at) is = ((came from _ comes).from_within, tt)
  says_within s _ _ (confirms local position client number body primary why) is = (all_at (HasClient c) s.own.log local (records.Data client number body) is.own.clients why.at, tt)
  says_within s from _ (acks_again _ first number body local position comes low stands place) is = ((came from _ comes).from_within, tt)
  says_within s from _ (acks_fate _ least next local position why below stands place) is = ((came from _ why.comes).from_within, tt)
  says_within s from _ (fates _ least next why above) is = ((came from _ why.comes).from_within, tt)

  stores_within : (s : Node ReplicaState) (item : Item) (own : ReplicaState) → Stores n event s item own → IsIn c s → HasShard c s.base.me own
  stores_within s _ _ (appends from first number body comes there low room expected) is =
      let came_so = came from (whats.Append first number body) comes in
      longer c s (records.Data (number_of from) number body ∷ []) _ refl (client_within c from came_so.from_within (and_parts (is_client from) (is_primary came_so.to) came_so.goes).0, tt) is
  stores_within s _ _ (copied from rec comes room) is = longer c s (rec ∷ []) _ refl ((came from (whats.Replicate (length s.own.log) rec) comes).says, tt) is
  stores_within s _ _ (fills from wanted comes there short) is =
      longer c s (replicate (min (wanted - length s.own.log) 64) records.Noop) _ refl (all_replicate (HasClient c) (min (wanted - length s.own.log) 64) records.Noop tt) is

  changes_within : (s : Node ReplicaState) (own : ReplicaState) → Changes n event s own → IsIn c s → HasShard c s.base.me own
  changes_within s _ (holds from len comes) is = record { shard = is.own.shard; clients = is.own.clients }
  changes_within s _ _ is = record { shard = is.own.shard; clients = is.own.clients }

  keeps_within : KeepsWithin replica_places c (HasShard c) n event
  keeps_within = record {
    resets = λ is. record { cfg = is.cfg; me = is.me; known = is.known; own = record { shard = is.own.shard; clients = is.own.clients } };
    learns = λ s entry told is. told_within n event s entry told begins takes;
    says = says_within;
    stores = stores_within;
    changes = changes_within;
  }

pub replica_within : (c : Config) (n : Node ReplicaState) (event : Event) → IsValidConfig c → TakesWithin c event → IsIn c n
    → StaysWithin c ReplicaState (HasShard c) (replica_step n event)
replica_within c n event valid takes is =
    replica_walk (StaysWithin c ReplicaState (HasShard c)) n event (staying replica_places c (HasShard c) n event (keeps_within c n event is takes) valid is takes)
