-- The log that counts grows at its end, and both replicas have it, and no longer one.
use Rattle.std.proofs.Common.{ℕ, ◌≤◌, ◌∷◌, length, take, refl, arith}
use Rattle.std.proofs.lemmas.List.{length-take-le}
use Rattle.net_model.specs.Pasts.{Past}
use Rattle.runs.specs.Names.{Config}
use Rattle.runs.specs.Names.sides
use Rattle.runs.specs.Known.{log_at}
use Rattle.runs.specs.Logs.{BackupIsAPrefix, BothReach}
use Rattle.safety_frame.proofs.Pasts.{log_grows}
use Rattle.safety_frame.proofs.Lists.{begins_itself, begins_on}
use Rattle.safety_frame.specs.EveryRun.{OfEveryRun}
use Rattle.safety_logs.specs.Counting.{AreCommon}
use Rattle.safety_logs.specs.LogClauses.{HeldGrows, HeldIsCommon}
use Rattle.safety_logs.proofs.Fronts.{front_of, no_longer}
use Rattle.safety_logs.proofs.Backups.{backup_is_a_prefix}

pub held_grows : HeldGrows
held_grows cfg e past shard valid run =
    let primary = log_grows cfg shard sides.Primary e past in
    let backup = log_grows cfg shard sides.Backup e past in
    let far = no_longer (log_at cfg shard sides.Primary past) (log_at cfg shard sides.Primary (e ∷ past)) primary in
    let near = no_longer (log_at cfg shard sides.Backup past) (log_at cfg shard sides.Backup (e ∷ past)) backup in
    record {
      held = backup;
      common = λ len are. record {
        front = are.front;
        long = are.long;
        primary = begins_on are.front (log_at cfg shard sides.Primary past) (log_at cfg shard sides.Primary (e ∷ past)) are.primary primary;
        backup = begins_on are.front (log_at cfg shard sides.Backup past) (log_at cfg shard sides.Backup (e ∷ past)) are.backup backup;
      };
      counts = λ agreed. omega (arith, far, near);
    }

-- ---- what is common

-- no more than either log has
pub reach_of : (cfg : Config) (past : Past) (shard len : ℕ) → AreCommon cfg past shard len → BothReach cfg past shard len
reach_of cfg past shard len are =
    let far = no_longer are.front (log_at cfg shard sides.Primary past) are.primary in
    let near = no_longer are.front (log_at cfg shard sides.Backup past) are.backup in
    record { primary = omega (arith, are.long, far); backup = omega (arith, are.long, near) }

-- what a backup has
pub common_of : (cfg : Config) (past : Past) (shard len : ℕ) → BackupIsAPrefix cfg past → len ≤ length (log_at cfg shard sides.Backup past)
    → AreCommon cfg past shard len
common_of cfg past shard len prefix within =
    let log = log_at cfg shard sides.Backup past in
    record {
      front = take len log;
      long = length-take-le len log within;
      primary = begins_on (take len log) log (log_at cfg shard sides.Primary past) (front_of len log) (prefix shard);
      backup = front_of len log;
    }

pub held_is_common : OfEveryRun HeldIsCommon
held_is_common cfg past valid run shard = record {
  common = record {
    front = log_at cfg shard sides.Backup past;
    long = refl;
    primary = backup_is_a_prefix cfg past valid run shard;
    backup = begins_itself (log_at cfg shard sides.Backup past);
  };
  longest = λ more are. (reach_of cfg past shard more are).backup;
}
