-- The law of logs, from its parts.
use Rattle.runs.specs.Logs.{LogsHold}
use Rattle.safety_frame.specs.EveryRun.{OfEveryRun}
use Rattle.safety_logs.proofs.Backups.{backup_is_a_prefix}
use Rattle.safety_logs.proofs.CoveredLogs.{covered_is_held}
use Rattle.safety_logs.proofs.Delivered.{delivers_tell}
use Rattle.safety_logs.proofs.Told.{reports_tell, replicateds_tell}

pub logs_hold : OfEveryRun LogsHold
logs_hold cfg past valid run = record {
  backup_is_a_prefix = backup_is_a_prefix cfg past valid run;
  reports_tell = reports_tell cfg past valid run;
  replicateds_tell = replicateds_tell cfg past valid run;
  delivers_tell = delivers_tell cfg past valid run;
  covered_is_held = covered_is_held cfg past valid run;
}
