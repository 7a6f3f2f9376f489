use Rattle.runs.proofs.WorkedRuns as worked
use Rattle.runs.proofs.laws.premises_are_met.Goals as goal

pub returns : goal.returns
returns c = worked.premises_are_met
