-- What a replica's messages say of its log.
use Rattle.std.specs.Prelude.{◌≡◌, ◌≤◌, List, length, Some, slice_get}
use Rattle.std.specs.List.{AllByRecursion}
use Rattle.node_rules.specs.Names.{Record, Message, What, Event}
use Rattle.node_rules.specs.Names.whats
use Rattle.node_rules.specs.Nodes.{Node}
use Rattle.shard_node.specs.States.{ReplicaState}
use Rattle.shard_node.specs.Steps.{replica_step}

-- a report, also to the primary, tells at most the length of the log; a record that is replicated or delivered stands at its local
abbrev pub IsTrueOf : List Record → What → Type 0
IsTrueOf log (whats.Report len) = len ≤ length log
IsTrueOf log (whats.Replicated len) = len ≤ length log
IsTrueOf log (whats.Replicate local rec) = slice_get log local ≡ Some rec
IsTrueOf log (whats.Deliver local rec) = slice_get log local ≡ Some rec
IsTrueOf log _ = Unit {0}

-- every message that the step of any replica with any event sends is true of the log after it
abbrev pub MessagesAreTrue : Type 0
MessagesAreTrue =
    (n : Node ReplicaState) (event : Event)
    → AllByRecursion (λ (m : Message). IsTrueOf (replica_step n event).state.own.log m.what) (replica_step n event).sends
