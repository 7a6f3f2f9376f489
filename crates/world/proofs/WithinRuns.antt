-- In a run whose commands are the cluster's, every message goes to a node of the cluster.
use Rattle.std.proofs.Common.{◌<◌, Bool, true, false, List, [], ◌∷◌, ◌++◌, refl, sym, subst}
use Rattle.std.specs.List.{AllByRecursion}
use Rattle.std.proofs.lemmas.List.Elements.{All-from_recursion, All-contains}
use Rattle.world.specs.inside.Names.{same_node, Past, sent, Node, sequencer_step, replica_step, client_step, any_meaning, consumer_step, NodeId, Config, Item, Event}
use Rattle.world.specs.inside.Names.{step_at}
use Rattle.msg_wire.specs.Valid.{IsValidConfig, IsNodeOf, IsValidEvent, IsCommandOf}
use Rattle.net_model.specs.Tables.{Progress, progress_of}
use Rattle.node_rules.specs.Names.{Command}
use Rattle.node_rules.specs.Names.commands
use Rattle.node_rules.specs.Turns.{Turn}
use Rattle.node_rules.specs.Lives.{life_of}
use Rattle.node_rules.proofs.Lists.{all_append}
use Rattle.seq_node.specs.Restart as sequencer
use Rattle.shard_node.specs.Restart as replica
use Rattle.client_node.specs.Restart as client
use Rattle.consumer_node.specs.Restart as consumer
use Rattle.runs.specs.Names.nodes
use Rattle.runs.specs.Names.events
use Rattle.runs.specs.Runs.{Comes, IsPastOf}
use Rattle.world.specs.inside.PlayerSteps.{IsCommandAt, AreCommandsOf}
use Rattle.runs.proofs.InPlace.{with_event, events_of, table_of, RestartsInPlace, progress_is}
use Rattle.runs.proofs.Restarts.{events_valid, sequencer_in_place, replica_in_place, client_in_place, consumer_in_place}
use Rattle.node_rules.proofs.Within.{CommandHasNodes, GoesWithin, TakesWithin, StaysWithin, IsWithin}
use Rattle.seq_node.proofs.Within.{HasEntries, sequencer_within}
use Rattle.shard_node.proofs.Within.{HasShard, replica_within}
use Rattle.client_node.proofs.Homes.{home_row}
use Rattle.client_node.proofs.Within.{HasHome, client_within}
use Rattle.consumer_node.proofs.Within.{HasAny, consumer_within}

-- ---- lives

abbrev KeepsSteps : (c : Config) (S : Type 0) (P : NodeId → S → Type 0) → (Node S → Event → Turn S) → Type 0
KeepsSteps c S P step = (n : Node S) (event : Event) → TakesWithin c event → IsWithin c S P n → StaysWithin c S P (step n event)

life_within : {S : Type 0} → (c : Config) (P : NodeId → S → Type 0) (step : Node S → Event → Turn S) (fresh : Node S) (taken : List Event)
    → KeepsSteps c S P step → IsWithin c S P fresh → AllByRecursion (TakesWithin c) taken → IsWithin c S P (life_of step fresh taken).node
life_within c P step fresh [] keeps start all = start
life_within c P step fresh (event ∷ taken) keeps start all =
    (keeps (life_of step fresh taken).node event all.0 (life_within c P step fresh taken keeps start all.1)).is

-- what a node of a past sends next
sends_within : {S : Type 0}
    → (c : Config) (P : NodeId → S → Type 0) (step : Node S → Event → Turn S) (fresh : Node S) (restart : List Item → Node S) (node : NodeId) (past : Past) (event : Event)
    → RestartsInPlace step fresh restart → AllByRecursion IsValidEvent (events_of node past) → KeepsSteps c S P step → IsWithin c S P fresh
    → AllByRecursion (TakesWithin c) (events_of node past) → TakesWithin c event
    → AllByRecursion (GoesWithin c) (step (progress_of (table_of step fresh restart) node past).state event).sends
sends_within {S} c P step fresh restart node past event in_place valid keeps start taken takes =
    let at : Progress (Node S) → Type 0 = λ p. AllByRecursion (GoesWithin c) (step p.state event).sends in
    subst at (sym (progress_is step fresh restart node past in_place valid))
    (keeps (life_of step fresh (events_of node past)).node event takes (life_within c P step fresh (events_of node past) keeps start taken)).sends

-- ---- a step of any node

step_within : (c : Config) (node : NodeId) (past : Past) (event : Event) → IsValidConfig c → IsNodeOf c node → IsPastOf c past
    → AllByRecursion (TakesWithin c) (events_of node past) → TakesWithin c event
    → AllByRecursion (GoesWithin c) (step_at c node past event).sends
step_within c (nodes.Seq n) past event valid here run taken takes =
    let node : NodeId = nodes.Seq n in
    sends_within c (HasEntries c) sequencer_step (sequencer.fresh_node c node) (sequencer.restart_of c node) node past event (sequencer_in_place c node valid here) (events_valid c node past run)
    (λ m e t is. sequencer_within c m e valid t is) (record { cfg = refl; me = here; known = tt; own = (tt, tt, tt) }) taken takes
step_within c (nodes.Shard n side) past event valid here run taken takes =
    let node : NodeId = nodes.Shard n side in
    sends_within c (HasShard c) replica_step (replica.fresh_node c node) (replica.restart_of c node) node past event (replica_in_place c node valid here) (events_valid c node past run)
    (λ m e t is. replica_within c m e valid t is) (record { cfg = refl; me = here; known = tt; own = record { shard = here; clients = tt } }) taken takes
step_within c (nodes.Client n) past event valid here run taken takes =
    let node : NodeId = nodes.Client n in
    sends_within c (HasHome c) client_step (client.fresh_node c node) (client.restart_of c node) node past event (client_in_place c node) (events_valid c node past run)
    (λ m e t is. client_within c m e valid t is) (record { cfg = refl; me = here; known = tt; own = home_row (λ home. home < c.shards) c.table c.homes n valid.some_shard valid.rows.have_nodes valid.homes }) taken takes
step_within c (nodes.Consumer n) past event valid here run taken takes =
    let node : NodeId = nodes.Consumer n in
    sends_within c HasAny (consumer_step any_meaning) (consumer.fresh_node any_meaning c node) (consumer.restart_of any_meaning c node) node past event (consumer_in_place c node valid here) (events_valid c node past run)
    (λ m e t is. consumer_within c any_meaning m e valid t is) (record { cfg = refl; me = here; known = tt; own = tt }) taken takes

-- ---- runs

command_within : (c : Config) (command : Command) → IsCommandOf c command → CommandHasNodes c command
command_within c (commands.Table rounds rows) is = is.1.have_nodes
command_within c (commands.Remove shard) is = tt

takes_within : (c : Config) (past : Past) (node : NodeId) (event : Event) → Comes past node event → IsCommandAt c event
    → AllByRecursion (GoesWithin c) (sent past) → TakesWithin c event
takes_within c past node (events.Deliver m) comes command all = (All-contains (GoesWithin c) (sent past) m (All-from_recursion (GoesWithin c) (sent past) all) comes.1).what
takes_within c past node (events.Command x) comes command all = command_within c x command
takes_within c past node _ comes command all = tt

all_first : {X : Type 0} → (P : X → Type 0) (xs ys : List X) → AllByRecursion P (xs ++ ys) → AllByRecursion P xs
all_first P [] ys all = tt
all_first P (x ∷ xs) ys all = (all.0, all_first P xs ys all.1)

taken_if : (c : Config) (own : Bool) (event : Event) (taken : List Event) → TakesWithin c event → AllByRecursion (TakesWithin c) taken
    → AllByRecursion (TakesWithin c) (with_event own event taken)
taken_if c true event taken here before = (here, before)
taken_if c false event taken here before = before

taken_within : (c : Config) (node : NodeId) (past : Past) → IsPastOf c past → AreCommandsOf c past → AllByRecursion (GoesWithin c) (sent past)
    → AllByRecursion (TakesWithin c) (events_of node past)
taken_within c node [] run commands_are all = tt
taken_within c node (e ∷ past) run commands_are all =
    let before = all_first (GoesWithin c) (sent past) e.sends all in
    taken_if c (same_node e.node node) e.event (events_of node past) (takes_within c past e.node e.event run.0.comes commands_are.0 before) (taken_within c node past run.1 commands_are.1 before)

-- each message goes to a node of the cluster
pub sent_within : (c : Config) (past : Past) → IsValidConfig c → IsPastOf c past → AreCommandsOf c past → AllByRecursion (GoesWithin c) (sent past)
sent_within c [] valid run commands_are = tt
sent_within c (e ∷ past) valid run commands_are =
    let before = sent_within c past valid run.1 commands_are.1 in
    let takes = takes_within c past e.node e.event run.0.comes commands_are.0 before in
    let sends = step_within c e.node past e.event valid run.0.within run.1 (taken_within c e.node past run.1 commands_are.1 before) takes in
    all_append (GoesWithin c) (sent past) e.sends before (subst (AllByRecursion (GoesWithin c)) (sym run.0.sends) sends)
