-- What a text that spells a plan makes as it is run.
use Rattle.std.specs.Prelude.{◌≡◌, ℕ, List, Option, Some, None}
use Rattle.script_text.specs.Names.{Plan}
use Rattle.script_text.specs.Plans.{SpellsPlan}
use Rattle.net_model.specs.Pasts.{past_of}
use Rattle.runs.specs.Names.{HistoryEntry}
use Rattle.runs.specs.Runs.{IsRun}
use Rattle.runs.specs.Safety.{IsSafe}
use Rattle.runs.specs.Cuts.{CutsAreTrue}
use Rattle.runs.specs.Eagerness.{IsEager}
use Rattle.cluster_run.specs.declared.record.RunRecord.{RunRecord}
use Rattle.cluster_run.specs.Running.{consumers_in}
use Rattle.report_text.specs.Summary.{summary_of}
use Rattle.speclog.specs.declared.outcome.Outcome.{Outcome}

-- the text spells a plan; the history is a run of its cluster, safe, its accepted cuts are true, and it is eager; the looks are those of the plan's
-- readers; and this is the summary
pub record Runs (text : List ℕ) (made : RunRecord) (summary : List ℕ) : Type 0 where
  pub plan : Plan
  pub spelled : SpellsPlan text plan
  pub run : IsRun plan.cfg made.history
  pub safe : IsSafe plan.cfg (past_of made.history)
  pub true_cuts : CutsAreTrue plan.cfg (past_of made.history)
  pub eager : IsEager plan.cfg (past_of made.history)
  pub readers : consumers_in made.looks.items ≡ plan.readers
  pub summary_is : summary ≡ summary_of plan.cfg made.history made.quiet

-- what an outcome has of a run
abbrev pub ran_with : Outcome → Option (List HistoryEntry) → Option RunRecord
ran_with outcome None = None
ran_with outcome (Some history) = Some (record { history = history; looks = outcome.looks; quiet = outcome.quiet })

abbrev pub ran_in : Outcome → Option RunRecord
ran_in outcome = ran_with outcome outcome.history
