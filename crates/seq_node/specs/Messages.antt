-- What a sequencer's messages say of the entries that it knows.
use Rattle.std.specs.Prelude.{◌≡◌, ◌<◌, ◌≤◌, List, length, Some, slice_get}
use Rattle.std.specs.List.{AllByRecursion}
use Rattle.node_rules.specs.Names.{Entry, Message, What, Event}
use Rattle.node_rules.specs.Names.whats
use Rattle.node_rules.specs.Nodes.{Node}
use Rattle.seq_node.specs.States.{SequencerState}
use Rattle.seq_node.specs.Steps.{sequencer_step}

-- a decided entry is known at its slot, and its count is above the slot and at most the number of known entries
abbrev pub IsTrueOf : List Entry → What → Type 0
IsTrueOf known (whats.Decided slot count entry) = (slot < count) × (count ≤ length known) × (slice_get known slot ≡ Some entry)
IsTrueOf known _ = Unit {0}

-- every message that the step of any sequencer with any event sends is true of the entries that it knows after it
abbrev pub MessagesAreTrue : Type 0
MessagesAreTrue =
    (n : Node SequencerState) (event : Event)
    → AllByRecursion (λ (m : Message). IsTrueOf (sequencer_step n event).state.base.known m.what) (sequencer_step n event).sends
