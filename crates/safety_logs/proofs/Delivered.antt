-- Of every run: what a replica delivers is durable there, so that it stands in the log that counts.
use Rattle.std.proofs.Common.{ℕ, ◌≤◌, ◌∷◌, length, arith}
use Rattle.msg_wire.specs.Valid.{IsValidConfig}
use Rattle.net_model.specs.Pasts.{Past}
use Rattle.node_rules.proofs.Lists.{all_weaken}
use Rattle.runs.specs.Names.{NodeId, Config, Message, What, HistoryEntry}
use Rattle.runs.specs.Names.nodes
use Rattle.runs.specs.Names.sides
use Rattle.runs.specs.Names.whats
use Rattle.runs.specs.Runs.{IsPastOf}
use Rattle.runs.specs.Known.{log_at}
use Rattle.runs.specs.Logs.{BackupIsAPrefix, DeliverTells, DeliversTell}
use Rattle.safety_frame.specs.EveryRun.{OfEveryRun}
use Rattle.safety_frame.specs.Replicates.{LogTells}
use Rattle.safety_frame.proofs.Lists.{all_true, index_stays}
use Rattle.safety_frame.proofs.NodeKinds.{after, replicas}
use Rattle.safety_frame.proofs.Pasts.{log_grows, of_sequencer, of_replica, of_client, of_consumer}
use Rattle.safety_frame.proofs.Replicates.{logs_tell}
use Rattle.safety_frame.proofs.Senders.{OfSent, every_sent}
use Rattle.safety_logs.specs.Counting.{held_log}
use Rattle.safety_logs.specs.LogClauses.{DeliverStands, DeliversStand}
use Rattle.safety_logs.proofs.Backups.{backup_is_a_prefix}
use Rattle.safety_logs.proofs.Durables.{IsWithin}
use Rattle.safety_logs.proofs.DurableLogs.{backup_length, step_durable, all_durable}
use Rattle.safety_logs.proofs.Fronts.{no_longer, index_back}
use Rattle.safety_logs.proofs.Told.{as_sent}

-- ---- what is sent is below the end of the log that counts

abbrev WithinHeld : Config → Past → NodeId → What → Type 0
WithinHeld cfg past (nodes.Shard shard side) what = IsWithin (length (held_log cfg shard past)) what
WithinHeld cfg past _ what = Unit {0}

within_longer : (what : What) (len more : ℕ) → len ≤ more → IsWithin len what → IsWithin more what
within_longer (whats.Deliver local rec) len more longer within = omega (arith, longer, within)
within_longer _ len more longer within = tt

within_on : (cfg : Config) (e : HistoryEntry) (past : Past) (from : NodeId) (what : What) → WithinHeld cfg past from what → WithinHeld cfg (e ∷ past) from what
within_on cfg e past (nodes.Shard shard side) what within =
    within_longer what (length (held_log cfg shard past)) (length (held_log cfg shard (e ∷ past)))
    (no_longer (held_log cfg shard past) (held_log cfg shard (e ∷ past)) (log_grows cfg shard sides.Backup e past)) within
within_on cfg e past _ what within = tt

all_within : (cfg : Config) (valid : IsValidConfig cfg) (past : Past) → IsPastOf cfg past
    → OfSent cfg valid (λ past from to what. WithinHeld cfg past from what) past
all_within cfg valid =
    every_sent cfg valid (λ past from to what. WithinHeld cfg past from what)
    (record {
      stays = λ e past m run there was. within_on cfg e past m.from m.what was;
      at_sequencers = λ e past run one before. all_true _ _ (λ m. of_sequencer (λ node. WithinHeld cfg (e ∷ past) node m.what) (λ n. tt) e.node one);
      at_replicas = λ e past run one before.
          all_weaken (λ (m : Message). IsWithin (backup_length cfg e.node (e ∷ past)) m.what) (λ (m : Message). WithinHeld cfg (e ∷ past) e.node m.what)
          (replicas.step (after replicas cfg e.node past) e.event).sends
          (λ m. of_replica (λ node. IsWithin (backup_length cfg node (e ∷ past)) m.what → WithinHeld cfg (e ∷ past) node m.what) (λ k side is. is) e.node one)
          (step_durable cfg valid e past run one (all_durable cfg valid past run.1 e.node one run.0.within)).1;
      at_clients = λ e past run one before. all_true _ _ (λ m. of_client (λ node. WithinHeld cfg (e ∷ past) node m.what) (λ n. tt) e.node one);
      at_consumers = λ e past run one before. all_true _ _ (λ m. of_consumer (λ node. WithinHeld cfg (e ∷ past) node m.what) (λ n. tt) e.node one);
    })

-- ---- so it stands there

stands : (cfg : Config) (past : Past) (from : NodeId) (what : What) → BackupIsAPrefix cfg past → LogTells cfg past from what
    → WithinHeld cfg past from what → DeliverStands cfg past from what
stands cfg past (nodes.Shard shard sides.Primary) (whats.Deliver local rec) prefix said within =
    index_back (held_log cfg shard past) (log_at cfg shard sides.Primary past) local rec (prefix shard) within said
stands cfg past (nodes.Shard shard sides.Backup) (whats.Deliver local rec) prefix said within = said
stands cfg past _ _ prefix said within = tt

pub delivers_stand : OfEveryRun DeliversStand
delivers_stand cfg past valid run m there =
    stands cfg past m.from m.what (backup_is_a_prefix cfg past valid run) (logs_tell cfg past valid run m there) (all_within cfg valid past run m there)

both_have : (cfg : Config) (past : Past) (from : NodeId) (what : What) → BackupIsAPrefix cfg past → DeliverStands cfg past from what
    → DeliverTells cfg past from what
both_have cfg past (nodes.Shard shard side) (whats.Deliver local rec) prefix stand = record {
  primary = index_stays (held_log cfg shard past) (log_at cfg shard sides.Primary past) local rec (prefix shard) stand;
  backup = stand;
}
both_have cfg past _ _ prefix stand = tt

pub delivers_tell : OfEveryRun DeliversTell
delivers_tell cfg past valid run =
    as_sent cfg (DeliverTells cfg)
    (λ past run m there. both_have cfg past m.from m.what (backup_is_a_prefix cfg past valid run) (delivers_stand cfg past valid run m there)) past run
