-- Nodes that are no sequencers store no votes.
use Rattle.std.specs.List.{AllByRecursion}
use Rattle.node_rules.specs.Nodes.{Node}
use Rattle.node_rules.proofs.Lists.{all_push, all_weaken}
use Rattle.node_rules.specs.Turns.{Turn}
use Rattle.node_rules.proofs.Places.{unshown_sites}
use Rattle.shard_node.specs.States.{ReplicaState}
use Rattle.shard_node.proofs.Places as shard
use Rattle.client_node.specs.States.{ClientState}
use Rattle.client_node.proofs.Places as client
use Rattle.app_law.specs.declared.any_app.AnyApp.{AnyApp}
use Rattle.consumer_node.specs.Apps.{any_meaning}
use Rattle.consumer_node.specs.States.{ConsumerState}
use Rattle.consumer_node.proofs.Places as consumer
use Rattle.runs.specs.Names.{Item, Event}
use Rattle.runs.specs.Names.items
use Rattle.safety_frame.proofs.NodeKinds.{Kind}

abbrev pub IsNoVote : Item → Type 0
IsNoVote (items.Accepted slot ballot entry) = ⊥
IsNoVote _ = Unit {0}

-- what holds of what is stored at each place holds of all that a step stores
module _ {S : Type 0} (k : Kind S)
    (stored : (n : Node S) (event : Event) (s : Node S) (item : Item) (own : S) → k.places.Stores n event s item own → IsNoVote item) where
  all_stored_so : (n : Node S) (event : Event) → AllByRecursion IsNoVote (k.step n event).stable
  all_stored_so n event =
      k.walk _ n event
      (unshown_sites (λ (t : Turn S). AllByRecursion IsNoVote t.stable)
      (record {
        starts = tt;
        restarts = λ e. tt;
        learns = λ t entry why w. all_push IsNoVote t.stable (items.Known entry) w tt;
        stores = λ t item own why w. all_push IsNoVote t.stable item w (stored n event t.state item own why);
        changes = λ t own why w. w;
      }))

  -- so does what holds of all but votes
  pub no_votes : (T : Item → Type 0) → ((item : Item) → IsNoVote item → T item) → (n : Node S) (event : Event) → AllByRecursion T (k.step n event).stable
  no_votes T each n event = all_weaken IsNoVote T (k.step n event).stable each (all_stored_so n event)

pub by_replicas : (n : Node ReplicaState) (event : Event) (s : Node ReplicaState) (item : Item) (own : ReplicaState) → shard.Stores n event s item own
    → IsNoVote item
by_replicas n event s _ _ (shard.appends from first number body comes there low room expected) = tt
by_replicas n event s _ _ (shard.copied from rec comes room) = tt
by_replicas n event s _ _ (shard.fills from wanted comes there short) = tt

pub by_clients : (n : Node ClientState) (event : Event) (s : Node ClientState) (item : Item) (own : ClientState) → client.Stores n event s item own
    → IsNoVote item
by_clients n event s _ _ (client.submits by body submit room) = tt
by_clients n event s _ _ (client.counts from number position comes next room) = tt
by_clients n event s _ _ (client.moves from next row comes home gone next_is row_is) = tt

pub by_consumers : (n : Node (ConsumerState AnyApp)) (event : Event) (s : Node (ConsumerState AnyApp)) (item : Item) (own : ConsumerState AnyApp)
    → consumer.Stores any_meaning n event s item own → IsNoVote item
by_consumers n event s _ _ (consumer.confirms_oldest rec o why) = tt
