-- What replicas take for durable, promise and confirm, against the log that counts.
use Rattle.std.specs.Prelude.{◌≡◌, ℕ, ◌<◌, ◌≤◌, List, length, take, slice_get, Some}
use Rattle.cut_core.specs.Agreements.{Agreement, count_of}
use Rattle.cut_core.specs.Map.{map_of, covered_locals, placed}
use Rattle.net_model.specs.Pasts.{Past, marks_of}
use Rattle.runs.specs.Names.{Side, Config, Record}
use Rattle.runs.specs.Names.nodes
use Rattle.runs.specs.Kinds.{replica_after}
use Rattle.runs.specs.Known.{agreed_after, agreed_at, log_at}
use Rattle.runs.specs.Marks.{confirmations}
use Rattle.safety_frame.specs.AgreedList.{agreed_list}
use Rattle.safety_logs.specs.Counting.{held_log, AreCommon, acting, durable_at}

-- of each replica of the cluster
abbrev pub OfReplicas : (ℕ → Side → Type 0) → Config → Type 0
OfReplicas P cfg = (shard : ℕ) (side : Side) → shard < cfg.shards → P shard side

-- what it knows to be covered is durable; and what it takes for durable is common, so that below it its log is the one that counts
pub record IsDurableHeld (cfg : Config) (past : Past) (shard : ℕ) (side : Side) : Type 0 where
  pub covered : covered_locals (agreed_at cfg (nodes.Shard shard side) past) shard ≤ durable_at cfg shard side past
  pub common : AreCommon cfg past shard (durable_at cfg shard side past)
  pub within : durable_at cfg shard side past ≤ length (held_log cfg shard past)
  pub held : take (durable_at cfg shard side past) (log_at cfg shard side past) ≡ take (durable_at cfg shard side past) (held_log cfg shard past)

abbrev pub DurableIsHeld : Config → Past → Type 0
DurableIsHeld cfg past = OfReplicas (IsDurableHeld cfg past) cfg

-- what the agreed list covers of a shard stands in the log that counts, and is common
pub record IsCoveredCommon (cfg : Config) (past : Past) (shard : ℕ) : Type 0 where
  pub within : covered_locals (agreed_after cfg (agreed_list cfg past)) shard ≤ length (held_log cfg shard past)
  pub common : AreCommon cfg past shard (covered_locals (agreed_after cfg (agreed_list cfg past)) shard)

abbrev pub CoveredIsCommon : Config → Past → Type 0
CoveredIsCommon cfg past = (shard : ℕ) → IsCoveredCommon cfg past shard

-- ---- of the replica that acts for a shard, by what it knows: it promises

abbrev pub OfActing : (ℕ → Side → Type 0) → Config → Past → Type 0
OfActing P cfg past =
    OfReplicas (λ shard side. nodes.Shard shard side ≡ acting (agreed_at cfg (nodes.Shard shard side) past) shard → P shard side) cfg

abbrev pub PromisedIsDurable : Config → Past → Type 0
PromisedIsDurable cfg past = OfActing (λ shard side. (replica_after cfg shard side past).own.promised ≤ durable_at cfg shard side past) cfg past

abbrev pub PromisedIsLeased : Config → Past → Type 0
PromisedIsLeased cfg past =
    OfActing
    (λ shard side. (replica_after cfg shard side past).own.promised ≤ count_of shard (map_of (agreed_at cfg (nodes.Shard shard side) past))) cfg past

-- ---- of replicas

-- the confirmations are of the covered locals, each at its place with its record
pub record ConfirmsCovered (agreed : Agreement) (shard : ℕ) (log : List Record) (confirmed : List (ℕ × Record)) : Type 0 where
  pub long : length confirmed ≡ covered_locals agreed shard
  pub each : (local position : ℕ) (rec : Record) → slice_get confirmed local ≡ Some (position, rec)
      → (placed agreed shard local ≡ Some position) × (slice_get log local ≡ Some rec)

abbrev pub CoveredIsConfirmed : Config → Past → Type 0
CoveredIsConfirmed cfg past =
    OfReplicas
    (λ shard side. ConfirmsCovered (agreed_at cfg (nodes.Shard shard side) past) shard (log_at cfg shard side past)
    (confirmations (marks_of (nodes.Shard shard side) past))) cfg
