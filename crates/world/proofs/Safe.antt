-- Every run of a valid cluster is safe: the laws joined.
use Rattle.runs.specs.Safety.{IsSafe}
use Rattle.safety_frame.specs.EveryRun.{OfEveryRun}
use Rattle.safety_consumers.proofs.Points.{outputs_follow_confirmed}
use Rattle.safety_consumers.proofs.Notices.{state_follows_applied}
use Rattle.safety_marks.proofs.Speculations.{one_log, speculation_holds}
use Rattle.safety_truth.proofs.Truth.{truthful}

pub safe : OfEveryRun IsSafe
safe cfg past valid run = record {
  one_log = one_log cfg past valid run;
  truthful = truthful cfg past valid run;
  speculation = speculation_holds cfg past valid run;
  outputs = outputs_follow_confirmed cfg past valid run;
  states = state_follows_applied cfg past valid run;
}
