-- What a sequencer's attempt is after an entry that is learned, and after a report; and what a delivery tells of what was sent.
use Rattle.std.proofs.Common.{◌≡◌, ◌⊎◌, ◌==◌, ℕ, Bool, true, false, List, Contains, Option, Some, None, inl, inr, refl, subst, if◌then◌else◌}
use Rattle.msg_wire.specs.Entries.{is_entry}
use Rattle.node_rules.specs.Names.{Command}
use Rattle.node_rules.specs.Nodes.{Node}
use Rattle.node_rules.proofs.Places.{Comes}
use Rattle.net_model.specs.Pasts.{Past, sent}
use Rattle.seq_node.specs.States.{SlotAttempt, SequencerState, with_attempt, with_report}
use Rattle.seq_node.specs.Learning.{attempt_over, wish_granted}
use Rattle.runs.specs.Names.{NodeId, Entry, Message, What, Event}
use Rattle.runs.specs.Names.nodes
use Rattle.runs.specs.Names.sides
use Rattle.runs.specs.Runs.{Comes as ComesIn}

-- ---- an entry is learned: an attempt for its slot ends

granted : (b : Bool) (s : SequencerState) (left : List Command) → (if b then record s { wishes = left } else s).attempt ≡ s.attempt
granted true s left = refl
granted false s left = refl

over_if : (over : Bool) (a : SlotAttempt) (entry : Entry) (s : SequencerState)
    → ((if over then wish_granted a.wished entry (with_attempt None s) else s).attempt ≡ None)
    ⊎ ((if over then wish_granted a.wished entry (with_attempt None s) else s).attempt ≡ s.attempt)
over_if true a entry s = inl (granted (is_entry a.wished entry) (with_attempt None s) _)
over_if false a entry s = inr refl

pub over_or_same : (o : Option SlotAttempt) (at : ℕ) (entry : Entry) (s : SequencerState)
    → ((attempt_over o at entry s).attempt ≡ None) ⊎ ((attempt_over o at entry s).attempt ≡ s.attempt)
over_or_same None at entry s = inr refl
over_or_same (Some a) at entry s = over_if (a.slot == at) a entry s

-- ---- a report is kept

pub report_leaves : (from : NodeId) (len : ℕ) (s : SequencerState) → (with_report from len s).attempt ≡ s.attempt
report_leaves (nodes.Shard shard sides.Primary) len s = refl
report_leaves (nodes.Shard shard sides.Backup) len s = refl
report_leaves (nodes.Seq number) len s = refl
report_leaves (nodes.Client number) len s = refl
report_leaves (nodes.Consumer number) len s = refl

-- ---- what comes was sent

pub record WasSent (past : Past) (from : NodeId) (what : What) : Type 0 where
  pub message : Message
  pub there : Contains (sent past) message
  pub by : message.from ≡ from
  pub says : message.what ≡ what

pub was_sent : {S : Type 0} (n : Node S) (event : Event) (from : NodeId) (what : What) (past : Past) (node : NodeId) → Comes n event from what
    → ComesIn past node event → WasSent past from what
was_sent n event from what past node comes taken = record {
  message = comes.message;
  there = (subst (ComesIn past node) comes.same taken).1;
  by = comes.by;
  says = comes.says;
}
