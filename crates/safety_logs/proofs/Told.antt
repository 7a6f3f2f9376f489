-- Told lengths are at most the logs', and what a backup told to have copied both have.
use Rattle.std.proofs.Common.{◌≡◌, true, [], ◌∷◌, Contains}
use Rattle.std.proofs.lemmas.Bool.{false≢true}
use Rattle.std.proofs.lemmas.List.Elements.{Contains-append_right}
use Rattle.msg_wire.specs.Heeded.{goes_between}
use Rattle.net_model.specs.Pasts.{Past, sent}
use Rattle.runs.specs.Names.{NodeId, Config, Message, What}
use Rattle.runs.specs.Names.nodes
use Rattle.runs.specs.Names.sides
use Rattle.runs.specs.Names.whats
use Rattle.runs.specs.Runs.{IsPastOf}
use Rattle.runs.specs.Logs.{AsSent, BackupIsAPrefix, ReportTells, ReportsTell, ReplicatedTells, ReplicatedsTell}
use Rattle.safety_frame.proofs.Lists.{from_members}
use Rattle.safety_frame.proofs.Heeding.{messages_are_heeded}
use Rattle.safety_frame.specs.EveryRun.{OfEveryRun}
use Rattle.safety_frame.specs.Replicates.{LogTells}
use Rattle.safety_logs.specs.LogClauses.{ReplicatedIsCommon, ReplicatedsAreCommon}
use Rattle.safety_frame.proofs.Replicates.{logs_tell}
use Rattle.safety_logs.proofs.Backups.{backup_is_a_prefix}
use Rattle.safety_logs.proofs.Growing.{common_of, reach_of}

-- what holds of all that was sent holds of each message as it is sent
pub as_sent : (cfg : Config) (T : Past → NodeId → What → Type 0)
    → ((past : Past) → IsPastOf cfg past → (m : Message) → Contains (sent past) m → T past m.from m.what) → (past : Past) → IsPastOf cfg past → AsSent T past
as_sent cfg T each [] run = tt
as_sent cfg T each (e ∷ past) run = (
  from_members (λ (m : Message). T (e ∷ past) m.from m.what) e.sends (λ m there. each (e ∷ past) run m (Contains-append_right (sent past) e.sends m there)),
  as_sent cfg T each past run.1,
)

-- ---- reports

report_of : (cfg : Config) (past : Past) (from : NodeId) (what : What) → LogTells cfg past from what → ReportTells cfg past from what
report_of cfg past (nodes.Shard shard side) (whats.Report len) said = said
report_of cfg past _ _ said = tt

pub reports_tell : OfEveryRun ReportsTell
reports_tell cfg past valid run =
    as_sent cfg (ReportTells cfg) (λ past run m there. report_of cfg past m.from m.what (logs_tell cfg past valid run m there)) past run

-- ---- what is copied

replicated_of : (cfg : Config) (past : Past) (from to : NodeId) (what : What) → BackupIsAPrefix cfg past → goes_between what from to ≡ true
    → LogTells cfg past from what → ReplicatedIsCommon cfg past from what
replicated_of cfg past (nodes.Shard shard sides.Backup) to (whats.Replicated len) prefix goes said = common_of cfg past shard len prefix said
replicated_of cfg past (nodes.Shard shard sides.Primary) to (whats.Replicated len) prefix goes said = absurd (false≢true goes)
replicated_of cfg past _ to _ prefix goes said = tt

pub replicateds_are_common : OfEveryRun ReplicatedsAreCommon
replicateds_are_common cfg past valid run m there =
    replicated_of cfg past m.from m.to m.what (backup_is_a_prefix cfg past valid run)
    ((messages_are_heeded cfg past valid run).messages m there).between (logs_tell cfg past valid run m there)

reached_of : (cfg : Config) (past : Past) (from : NodeId) (what : What) → ReplicatedIsCommon cfg past from what → ReplicatedTells cfg past from what
reached_of cfg past (nodes.Shard shard side) (whats.Replicated len) are = reach_of cfg past shard len are
reached_of cfg past _ _ are = tt

pub replicateds_tell : OfEveryRun ReplicatedsTell
replicateds_tell cfg past valid run =
    as_sent cfg (ReplicatedTells cfg)
    (λ past run m there. reached_of cfg past m.from m.what (replicateds_are_common cfg past valid run m there)) past run
