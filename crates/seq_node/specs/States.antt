-- What a sequencer has: its acceptors, the greatest reports, its wishes, at most one attempt, and how long it has been idle.
use Rattle.std.specs.Prelude.{ℕ, ◌+◌, ◌-◌, ◌==◌, ◌&&◌, min, max, if◌then◌else◌, List, [], ◌++◌, map, length, replicate, get_or, slice_index, slice_set, Option, Some, None}
use Rattle.std.specs.List.{range_with_len}
use Rattle.majority.specs.Acceptors.{AcceptorState, fresh_acceptor}
use Rattle.node_rules.specs.Names.{NodeId, Entry}
use Rattle.node_rules.specs.Names.nodes
use Rattle.node_rules.specs.Names.sides
use Rattle.seq_node.specs.declared.state.SlotAttempt.{SlotAttempt as SlotAttemptOf}
use Rattle.seq_node.specs.declared.state.SequencerState.{SequencerState as SequencerStateOf}

-- an attempt at a slot, and the entry that it made of the first wish, if it did
abbrev pub SlotAttempt : Type 0
SlotAttempt = SlotAttemptOf

-- the acceptors of the slots from 0 on, up to the last that has one; the greatest length that each shard's primary and each
-- shard's backup reported; the wishes, the oldest first; the attempt; the ticks since something happened
abbrev pub SequencerState : Type 0
SequencerState = SequencerStateOf

-- with these acceptors, and nothing else
abbrev pub only_acceptors : List (AcceptorState Entry) → SequencerState
only_acceptors acceptors = record {
  acceptors = acceptors;
  primaries = replicate 6 0;
  backups = replicate 6 0;
  wishes = [];
  attempt = None;
  idle = 0;
}

abbrev pub fresh_sequencer : SequencerState
fresh_sequencer = only_acceptors []

-- ---- acceptors

-- the acceptor of a slot; a slot that nobody asked for has a fresh one
abbrev pub acceptor_at : SequencerState → ℕ → AcceptorState Entry
acceptor_at s slot = get_or s.acceptors slot fresh_acceptor

-- acceptors of so many slots at least: those beyond the last one are fresh
abbrev pub reaching : ℕ → List (AcceptorState Entry) → List (AcceptorState Entry)
reaching count acceptors = acceptors ++ replicate (count - length acceptors) fresh_acceptor

abbrev pub with_acceptor : ℕ → AcceptorState Entry → SequencerState → SequencerState
with_acceptor slot acceptor s = record s { acceptors = slice_set (reaching (slot + 1) s.acceptors) slot acceptor }

-- ---- reports

-- the greater of a shard's length and what stands there
abbrev pub with_greatest : ℕ → ℕ → List ℕ → List ℕ
with_greatest shard len lengths = slice_set lengths shard (max len (slice_index lengths shard))

-- a replica's report; the greatest is kept
abbrev pub with_report : NodeId → ℕ → SequencerState → SequencerState
with_report (nodes.Shard shard sides.Primary) len s = record s { primaries = with_greatest shard len s.primaries }
with_report (nodes.Shard shard sides.Backup) len s = record s { backups = with_greatest shard len s.backups }
with_report (nodes.Seq number) len s = s
with_report (nodes.Client number) len s = s
with_report (nodes.Consumer number) len s = s

-- a shard's length is the lesser of its two replicas' greatest reports
abbrev pub lengths_of : SequencerState → List ℕ
lengths_of s = map (λ shard. min (slice_index s.primaries shard) (slice_index s.backups shard)) (range_with_len 0 6)

-- ---- the attempt

abbrev pub with_attempt : Option SlotAttempt → SequencerState → SequencerState
with_attempt attempt s = record s { attempt = attempt }

abbrev pub with_idle : ℕ → SequencerState → SequencerState
with_idle idle s = record s { idle = idle }

-- the ballot of the attempt that stands for a slot, or else 0
abbrev pub standing_ballot : ℕ → Option SlotAttempt → ℕ
standing_ballot slot None = 0
standing_ballot slot (Some a) = if a.slot == slot then a.attempt.ballot else 0

-- the attempt, where this slot and this ballot are its own
abbrev pub attempt_for : ℕ → ℕ → Option SlotAttempt → Option SlotAttempt
attempt_for slot ballot None = None
attempt_for slot ballot (Some a) = if (a.slot == slot) && (a.attempt.ballot == ballot) then Some a else None
