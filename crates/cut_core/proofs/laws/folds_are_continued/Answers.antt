use Rattle.fix_ante.specs.Windows.{first_of}
use Rattle.cut_core.specs.Fold.{fold_of}
use Rattle.cut_core.proofs.Sound.{IsSound_fold_of}
use Rattle.cut_core.proofs.Consistent.{IsContinuedBy_applied_all}
use Rattle.cut_core.proofs.laws.folds_are_continued.Goals as goal

pub returns : goal.returns
returns c = λ rounds rows entries more some most table few valid.
    IsContinuedBy_applied_all (fold_of (first_of rounds rows) entries) more (IsSound_fold_of rounds rows entries some most table few valid)
