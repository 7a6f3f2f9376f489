-- What a text that spells a script makes.
use Rattle.std.specs.Prelude.{◌≡◌, ℕ, List, None}
use Rattle.script_text.specs.Names.{Config, Input}
use Rattle.script_text.specs.Scripts.{SpellsScript}
use Rattle.runs.specs.Names.{HistoryEntry}
use Rattle.world.specs.Playing.{history_of, play_fault}
use Rattle.net_model.specs.Pasts.{past_of}
use Rattle.runs.specs.Runs.{IsRun}
use Rattle.runs.specs.Safety.{IsSafe}
use Rattle.runs.specs.Cuts.{CutsAreTrue}
use Rattle.runs.specs.Eagerness.{IsEager}
use Rattle.report_text.specs.Report.{report_of}

-- the text spells a script whose inputs can all be played; they make this history, a run of the cluster, and this report. The run is safe, its
-- accepted cuts are true, and it is eager
pub record Plays (text : List ℕ) (history : List HistoryEntry) (report : List ℕ) : Type 0 where
  pub cfg : Config
  pub inputs : List Input
  pub numbers : List ℕ
  pub spelled : SpellsScript text cfg inputs numbers
  pub accepted : play_fault cfg inputs ≡ None
  pub history_is : history ≡ history_of cfg inputs
  pub run : IsRun cfg history
  pub safe : IsSafe cfg (past_of history)
  pub true_cuts : CutsAreTrue cfg (past_of history)
  pub eager : IsEager cfg (past_of history)
  pub report_is : report ≡ report_of cfg history
