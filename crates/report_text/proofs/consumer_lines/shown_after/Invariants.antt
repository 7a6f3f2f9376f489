use Rattle.std.proofs.Common.{◌≡◌, map, drop}
use Rattle.app_law.specs.AnyApps.{any_fresh, any_next}
use Rattle.app_law.specs.Folds.{fold_of}
use Rattle.report_text.proofs.consumer_lines.shown_after.Given as goal

abbrev pub invariant-loop-rec : goal.invariant-loop-rec
invariant-loop-rec l = fold_of any_next l.state (map (λ r. r.now) (drop l.rec-index l.log)) ≡ fold_of any_next (any_fresh l.fn.app) (map (λ r. r.now) l.log)
