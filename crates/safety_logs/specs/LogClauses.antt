-- What is told and kept of logs stands in them, and the log that counts only grows.
use Rattle.std.specs.Prelude.{◌≡◌, ℕ, ◌<◌, ◌≤◌, List, ◌∷◌, length, slice_get, slice_index, Some}
use Rattle.cut_core.specs.Agreements.{Agreement}
use Rattle.msg_wire.specs.Valid.{IsValidConfig}
use Rattle.net_model.specs.Pasts.{Past}
use Rattle.seq_node.specs.States.{SequencerState}
use Rattle.runs.specs.Names.{NodeId, Config, What, HistoryEntry}
use Rattle.runs.specs.Names.nodes
use Rattle.runs.specs.Names.sides
use Rattle.runs.specs.Names.whats
use Rattle.runs.specs.Kinds.{sequencer_after}
use Rattle.runs.specs.Runs.{IsPastOf}
use Rattle.runs.specs.Known.{log_at}
use Rattle.runs.specs.Marks.{IsPrefix}
use Rattle.safety_frame.specs.Replicates.{OfSaid}
use Rattle.safety_logs.specs.Counting.{held_log, AreCommon, IsCommon, counted}

-- ---- logs

-- with an entry more
pub record GrowsWith (cfg : Config) (e : HistoryEntry) (past : Past) (shard : ℕ) : Type 0 where
  pub held : IsPrefix (held_log cfg shard past) (held_log cfg shard (e ∷ past))
  pub common : (len : ℕ) → AreCommon cfg past shard len → AreCommon cfg (e ∷ past) shard len
  pub counts : (agreed : Agreement) → counted cfg agreed shard past ≤ counted cfg agreed shard (e ∷ past)

abbrev pub HeldGrows : Type 0
HeldGrows =
    (cfg : Config) (e : HistoryEntry) (past : Past) (shard : ℕ) → IsValidConfig cfg → IsPastOf cfg (e ∷ past) → GrowsWith cfg e past shard

abbrev pub HeldIsCommon : Config → Past → Type 0
HeldIsCommon cfg past = (shard : ℕ) → IsCommon cfg past shard (length (held_log cfg shard past))

-- ---- what was sent

-- what a backup told to have copied is common
abbrev pub ReplicatedIsCommon : Config → Past → NodeId → What → Type 0
ReplicatedIsCommon cfg past (nodes.Shard shard side) (whats.Replicated len) = AreCommon cfg past shard len
ReplicatedIsCommon cfg past _ _ = Unit {0}

abbrev pub ReplicatedsAreCommon : Config → Past → Type 0
ReplicatedsAreCommon cfg past = OfSaid (ReplicatedIsCommon cfg past) past

-- what a replica delivered stands in the log that counts
abbrev pub DeliverStands : Config → Past → NodeId → What → Type 0
DeliverStands cfg past (nodes.Shard shard side) (whats.Deliver local rec) = slice_get (held_log cfg shard past) local ≡ Some rec
DeliverStands cfg past _ _ = Unit {0}

abbrev pub DeliversStand : Config → Past → Type 0
DeliversStand cfg past = OfSaid (DeliverStands cfg past) past

-- ---- what a sequencer keeps

-- each shard's length is at most this
abbrev pub AreUpTo : (ℕ → ℕ) → List ℕ → Type 0
AreUpTo limit lengths = (shard : ℕ) → slice_index lengths shard ≤ limit shard

-- the reports that it keeps
abbrev pub KeepsUpTo : (ℕ → ℕ) → (ℕ → ℕ) → SequencerState → Type 0
KeepsUpTo primaries backups s = AreUpTo primaries s.primaries × AreUpTo backups s.backups

-- are at most the lengths of the logs
abbrev pub KeepsWhatIsTrue : Config → Past → SequencerState → Type 0
KeepsWhatIsTrue cfg past =
    KeepsUpTo (λ shard. length (log_at cfg shard sides.Primary past)) (λ shard. length (log_at cfg shard sides.Backup past))

abbrev pub KeptReportsTell : Config → Past → Type 0
KeptReportsTell cfg past = (number : ℕ) → number < cfg.seqs → KeepsWhatIsTrue cfg past (sequencer_after cfg number past).own
