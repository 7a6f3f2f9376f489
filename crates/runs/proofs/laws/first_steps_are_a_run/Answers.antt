use Rattle.runs.proofs.FirstRun.{steps_are_a_run}
use Rattle.runs.proofs.laws.first_steps_are_a_run.Goals as goal

pub returns : goal.returns
returns c = record { are_a_run = steps_are_a_run }
