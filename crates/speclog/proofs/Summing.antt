-- What an outcome of a run shows, and how much of its summary went out.
use Rattle.std.proofs.Common.{◌≡◌, ◌⊎◌, inl, inr, ℕ, List, take, Option, Some, None, IfSome, refl, sym, ap, ◌∙◌, subst}
use Rattle.std.specs.Io.KnownBytes.{append_known}
use Rattle.script_text.specs.Names.{Plan}
use Rattle.script_text.specs.Plans.{SpellsPlan}
use Rattle.net_model.specs.Pasts.{past_of}
use Rattle.runs.specs.Names.{HistoryEntry}
use Rattle.runs.specs.Laws.{IsRun, IsSafe, CutsAreTrue, IsEager}
use Rattle.report_text.specs.Summary.{summary_of}
use Rattle.cluster_run.specs.declared.record.RunRecord.{RunRecord}
use Rattle.cluster_run.specs.Running.{consumers_in}
use Rattle.speclog.specs.declared.fault.Fault.{Fault}
use Rattle.speclog.specs.declared.fault.Fault.TheVariants.{OutOfMemory, WriteFault}
use Rattle.speclog.specs.declared.outcome.Outcome.{Outcome}
use Rattle.speclog.specs.Runs.{Runs, ran_in, ran_with}
use Rattle.speclog.specs.Writes.{BeginsToWrite, Taken, Writes}

-- memory was refused as the summary went out
pub written_without_memory : (fault : Option Fault) (kept : Option RunRecord) (made : RunRecord) (text summary : List ℕ) (taken : Taken)
    → fault ≡ Some OutOfMemory → Runs text made summary → BeginsToWrite taken summary → Writes Runs fault kept text taken
written_without_memory fault kept made text summary taken is runs begun =
    subst (λ f. Writes Runs f kept text taken) (sym is) (inr (made, record { text = summary; makes = runs; out = begun }))

module _ (o : Outcome) (made : RunRecord) (text summary : List ℕ) (taken : Taken) (history : o.history ≡ Some made.history) (looks : o.looks ≡ made.looks)
    (quiet : o.quiet ≡ made.quiet) (runs : Runs text made summary) where
  -- the outcome has what was run
  abbrev runs_so : Runs text (record { history = made.history; looks = o.looks; quiet = o.quiet }) summary
  runs_so = record {
    plan = runs.plan;
    spelled = runs.spelled;
    run = runs.run;
    safe = runs.safe;
    true_cuts = runs.true_cuts;
    eager = runs.eager;
    readers = ap (λ l. consumers_in (record made { looks = l }).looks.items) looks ∙ runs.readers;
    summary_is = runs.summary_is ∙ ap (summary_of runs.plan.cfg made.history) (sym quiet);
  }

  pub written_whole : o.fault ≡ None → taken.after ≡ append_known taken.before summary → Writes Runs o.fault (ran_in o) text taken
  written_whole none out =
      subst (λ f. Writes Runs f (ran_in o) text taken) (sym none)
      (subst (λ h. Writes Runs None (ran_with o h) text taken) (sym history) (record { text = summary; makes = runs_so; out = out }))

  pub written_in_part : o.fault ≡ Some WriteFault → BeginsToWrite taken summary → Writes Runs o.fault (ran_in o) text taken
  written_in_part failed begun =
      subst (λ f. Writes Runs f (ran_in o) text taken) (sym failed)
      (subst (λ h. Writes Runs (Some WriteFault) (ran_with o h) text taken) (sym history) (record { text = summary; makes = runs_so; out = begun }))

  -- its history is safe, and a beginning of its summary is out
  pub safe_so : BeginsToWrite taken summary → IfSome o.history (λ h. (plan : Plan) × SpellsPlan text plan × IsRun plan.cfg h
      × IsSafe plan.cfg (past_of h) × CutsAreTrue plan.cfg (past_of h) × IsEager plan.cfg (past_of h)
      × BeginsToWrite taken (summary_of plan.cfg h o.quiet))
  safe_so begun =
      subst (λ found. IfSome found (λ h. (plan : Plan) × SpellsPlan text plan × IsRun plan.cfg h
      × IsSafe plan.cfg (past_of h) × CutsAreTrue plan.cfg (past_of h) × IsEager plan.cfg (past_of h)
      × BeginsToWrite taken (summary_of plan.cfg h o.quiet))) (sym history)
      (runs.plan, runs.spelled, runs.run, runs.safe, runs.true_cuts, runs.eager, subst (BeginsToWrite taken) runs_so.summary_is begun)
