-- The law of logs: a backup's log begins its primary's, and what is told of logs and what is covered stands in them.
use Rattle.std.specs.Prelude.{◌≡◌, ℕ, ◌≤◌, ◌∷◌, length, slice_get, Some}
use Rattle.std.specs.List.{AllByRecursion}
use Rattle.cut_core.specs.Map.{covered_locals}
use Rattle.net_model.specs.Pasts.{Past, Throughout}
use Rattle.runs.specs.Names.{NodeId, Config, Record, Message, What}
use Rattle.runs.specs.Names.nodes
use Rattle.runs.specs.Names.sides
use Rattle.runs.specs.Names.whats
use Rattle.runs.specs.Known.{agreed_at, log_at}
use Rattle.runs.specs.Marks.{IsPrefix}

abbrev pub BackupIsAPrefix : Config → Past → Type 0
BackupIsAPrefix cfg past = (shard : ℕ) → IsPrefix (log_at cfg shard sides.Backup past) (log_at cfg shard sides.Primary past)

-- both replicas of a shard have so many records
pub record BothReach (cfg : Config) (past : Past) (shard len : ℕ) : Type 0 where
  pub primary : len ≤ length (log_at cfg shard sides.Primary past)
  pub backup : len ≤ length (log_at cfg shard sides.Backup past)

-- both replicas of a shard have the record at the local
pub record BothHave (cfg : Config) (past : Past) (shard local : ℕ) (rec : Record) : Type 0 where
  pub primary : slice_get (log_at cfg shard sides.Primary past) local ≡ Some rec
  pub backup : slice_get (log_at cfg shard sides.Backup past) local ≡ Some rec

-- ---- what a message tells, of the logs after a past

-- a report: at most the length of its sender's log
abbrev pub ReportTells : Config → Past → NodeId → What → Type 0
ReportTells cfg past (nodes.Shard shard side) (whats.Report len) = len ≤ length (log_at cfg shard side past)
ReportTells cfg past _ _ = Unit {0}

-- what a backup tells its primary to have copied: at most the length of both logs
abbrev pub ReplicatedTells : Config → Past → NodeId → What → Type 0
ReplicatedTells cfg past (nodes.Shard shard side) (whats.Replicated len) = BothReach cfg past shard len
ReplicatedTells cfg past _ _ = Unit {0}

-- what a replica delivers: the record of its shard at the local, in both logs
abbrev pub DeliverTells : Config → Past → NodeId → What → Type 0
DeliverTells cfg past (nodes.Shard shard side) (whats.Deliver local rec) = BothHave cfg past shard local rec
DeliverTells cfg past _ _ = Unit {0}

-- it holds of each message as soon as it is sent
abbrev pub AsSent : (Past → NodeId → What → Type 0) → Past → Type 0
AsSent T = Throughout (λ past e. AllByRecursion (λ (m : Message). T (e ∷ past) m.from m.what) e.sends)

abbrev pub ReportsTell : Config → Past → Type 0
ReportsTell cfg = AsSent (ReportTells cfg)

abbrev pub ReplicatedsTell : Config → Past → Type 0
ReplicatedsTell cfg = AsSent (ReplicatedTells cfg)

abbrev pub DeliversTell : Config → Past → Type 0
DeliversTell cfg = AsSent (DeliverTells cfg)

-- ---- what is covered

-- the covered locals of a shard, in what any node knows, stand in both logs
abbrev pub CoveredIsHeld : Config → Past → Type 0
CoveredIsHeld cfg past = (node : NodeId) (shard : ℕ) → BothReach cfg past shard (covered_locals (agreed_at cfg node past) shard)

pub record LogsHold (cfg : Config) (past : Past) : Type 0 where
  pub backup_is_a_prefix : BackupIsAPrefix cfg past
  pub reports_tell : ReportsTell cfg past
  pub replicateds_tell : ReplicatedsTell cfg past
  pub delivers_tell : DeliversTell cfg past
  pub covered_is_held : CoveredIsHeld cfg past
