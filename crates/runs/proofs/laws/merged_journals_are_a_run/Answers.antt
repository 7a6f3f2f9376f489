use Rattle.runs.proofs.MergedJournals.{merge_is_run}
use Rattle.runs.proofs.laws.merged_journals_are_a_run.Goals as goal

pub returns : goal.returns
returns c = merge_is_run
