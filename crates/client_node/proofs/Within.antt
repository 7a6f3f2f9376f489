-- A client sends to nodes of the cluster alone.
use Rattle.std.proofs.Common.{◌<◌}
use Rattle.fix_ante.specs.declared.spots.Spot.{Spot}
use Rattle.msg_wire.specs.Nodes.{replicas_of}
use Rattle.msg_wire.specs.Valid.{IsValidConfig, IsNodeOf}
use Rattle.node_rules.specs.Names.{NodeId, Config, What, Item, Event}
use Rattle.node_rules.specs.Names.whats
use Rattle.node_rules.specs.Nodes.{Node, agreed_by}
use Rattle.node_rules.proofs.Lists.{all_at}
use Rattle.node_rules.proofs.Within.{SaysWithin, TakesWithin, IsWithin, StaysWithin, told_within, KeepsWithin, staying}
use Rattle.node_rules.proofs.WithinAgreed.{agreed_within}
use Rattle.client_node.specs.States.{ClientState}
use Rattle.client_node.specs.Steps.{client_step}
use Rattle.client_node.proofs.Places.{Says, Stores, sends_body, asks_fate, submits, counts, moves, client_places}
use Rattle.client_node.proofs.Walk.{client_walk}

-- its home has nodes
abbrev pub HasHome : Config → NodeId → ClientState → Type 0
HasHome c me own = own.home < c.shards

abbrev IsIn : Config → Node ClientState → Type 0
IsIn c s = IsWithin c ClientState (HasHome c) s

says_within : (c : Config) (n : Node ClientState) (event : Event) (s : Node ClientState) (to : NodeId) (what : What) → Says n event s to what → IsIn c s
    → IsNodeOf c to × SaysWithin c what
says_within c n event s _ _ (sends_body number body from below at) is = (is.own, tt)
says_within c n event s to _ (asks_fate _ i there gone) is = (all_at (IsNodeOf c) (replicas_of s.own.home) i to (is.own, (is.own, tt)) there, tt)

-- the new home is a row of the current window
stores_within : (c : Config) (n : Node ClientState) (event : Event) (s : Node ClientState) (item : Item) (own : ClientState) → IsValidConfig c
    → Stores n event s item own → IsIn c s → HasHome c s.base.me own
stores_within c n event s _ _ valid (submits by body submit room) is = is.own
stores_within c n event s _ _ valid (counts from number position comes next room) is = is.own
stores_within c n event s _ _ valid (moves from next row comes home gone next_is row_is) is =
    all_at (λ (o : Spot). o.shard < c.shards) (agreed_by s.base).current.spots _ row (agreed_within s valid is).current row_is

pub client_within : (c : Config) (n : Node ClientState) (event : Event) → IsValidConfig c → TakesWithin c event → IsIn c n
    → StaysWithin c ClientState (HasHome c) (client_step n event)
client_within c n event valid takes is =
    let keeps : KeepsWithin client_places c (HasHome c) n event = record {
      resets = λ is. record { cfg = is.cfg; me = is.me; known = is.known; own = is.own };
      learns = λ s entry told within. told_within n event s entry told is takes;
      says = says_within c n event;
      stores = λ s item own why within. stores_within c n event s item own valid why within;
      changes = λ s own why within. absurd why;
    } in
    client_walk (StaysWithin c ClientState (HasHome c)) n event (staying client_places c (HasHome c) n event keeps valid is takes)
