-- What holds of a turn in the midst of a sequencer's step.
use Rattle.node_rules.specs.Turns.{Turn}
use Rattle.seq_node.specs.States.{SequencerState}
use Rattle.seq_node.specs.Sound.{IsSequencer}

-- its node is a sequencer still
abbrev pub IsUnderWay : Turn SequencerState → Type 0
IsUnderWay t = IsSequencer t.state
