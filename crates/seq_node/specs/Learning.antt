-- What a sequencer does at a learned entry, and as it decides one.
use Rattle.std.specs.Prelude.{ℕ, ◌+◌, ◌==◌, if◌then◌else◌, List, drop, Option, Some, None}
use Rattle.cut_core.specs.Agreements.{Agreement}
use Rattle.msg_wire.specs.Nodes.{sequencers_of, nodes_of, without_node}
use Rattle.msg_wire.specs.Entries.{is_entry}
use Rattle.node_rules.specs.Names.{NodeId, Entry}
use Rattle.node_rules.specs.Names.whats
use Rattle.node_rules.specs.Turns.{Turn, cfg_of, me_of, own_of, count_known, put_own, send_all}
use Rattle.node_rules.specs.Rules.{learn}
use Rattle.seq_node.specs.States.{SlotAttempt, SequencerState, with_attempt, with_idle}

-- every other sequencer, and every other node
abbrev pub other_sequencers : Turn SequencerState → List NodeId
other_sequencers t = without_node (me_of t) (sequencers_of (cfg_of t))

abbrev pub other_nodes : Turn SequencerState → List NodeId
other_nodes t = without_node (me_of t) (nodes_of (cfg_of t))

-- the first wish is dropped where the entry is what the attempt made of it
abbrev pub wish_granted : Option Entry → Entry → SequencerState → SequencerState
wish_granted wished entry s = if is_entry wished entry then record s { wishes = drop 1 s.wishes } else s

-- an attempt for the slot ends
abbrev pub attempt_over : Option SlotAttempt → ℕ → Entry → SequencerState → SequencerState
attempt_over None slot entry s = s
attempt_over (Some a) slot entry s = if a.slot == slot then wish_granted a.wished entry (with_attempt None s) else s

-- a learned entry: something happened, and an attempt for its slot ends
abbrev pub on_learned : Agreement → Entry → Turn SequencerState → Turn SequencerState
on_learned before entry t = put_own (attempt_over (own_of t).attempt before.slots entry (with_idle 0 (own_of t))) t

-- deciding: the entry is learned, and told to every other node
abbrev pub announce : ℕ → Entry → Turn SequencerState → Turn SequencerState
announce slot entry t = send_all (other_nodes t) (whats.Decided slot (slot + 1) entry) t

abbrev pub decide : Entry → Turn SequencerState → Turn SequencerState
decide entry t = announce (count_known t) entry (learn on_learned entry t)
