-- A consumer sends to nodes of the cluster alone.
use Rattle.std.proofs.Common.{◌<◌}
use Rattle.consumer_node.specs.inside.Names.{Owner, map_of, IsValidConfig, IsNodeOf, NodeId, Config, Event, What, Node, agreed_by, Meaning, ConsumerState}
use Rattle.consumer_node.specs.inside.Names.{consumer_step}
use Rattle.node_rules.proofs.Lists.{all_at}
use Rattle.node_rules.proofs.Within.{SaysWithin, TakesWithin, IsWithin, StaysWithin, comes_within, staying}
use Rattle.node_rules.proofs.WithinAgreed.{agreed_within, map_within}
use Rattle.consumer_node.proofs.Places.{Says, fetches_wanted, consumer_places}
use Rattle.consumer_node.proofs.Walk.{consumer_walk}

-- nothing is asked of what a consumer has of its own
abbrev pub HasAny : {A : Type 0} → NodeId → ConsumerState A → Type 0
HasAny me own = Unit {0}

said_within : {A : Type 0} (app : Meaning A) (c : Config) (n : Node (ConsumerState A)) (event : Event) (s : Node (ConsumerState A)) (to : NodeId) (what : What)
    → IsValidConfig c → IsWithin c (ConsumerState A) HasAny s
    → Says app n event s to what → IsNodeOf c to × SaysWithin c what
said_within app c n event s to what valid is (fetches_wanted o side position tick there wanted) =
    (all_at (λ (x : Owner). x.shard < c.shards) (map_of (agreed_by s.base)) position o (map_within c (agreed_by s.base) (agreed_within s valid is)) there, tt)

pub consumer_within : {A : Type 0} (c : Config) (app : Meaning A) (n : Node (ConsumerState A)) (event : Event) → IsValidConfig c → TakesWithin c event
    → IsWithin c (ConsumerState A) HasAny n
    → StaysWithin c (ConsumerState A) HasAny (consumer_step app n event)
consumer_within {A} c app n event valid takes begins =
    consumer_walk app _ n event (staying (consumer_places app) c HasAny n event (record {
      resets = λ is. record { cfg = is.cfg; me = is.me; known = is.known; own = tt };
      learns = λ s entry told is. (comes_within n event told.from _ told.comes begins takes).says;
      says = λ s to what why is. said_within app c n event s to what valid is why;
      stores = λ s item own why is. tt;
      changes = λ s own why is. tt;
    }) valid begins takes)
