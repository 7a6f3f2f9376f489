use Rattle.cut_core.proofs.Consistent.{IsConsistent_fold_of}
use Rattle.cut_core.proofs.laws.folds_are_consistent.Goals as goal

pub returns : goal.returns
returns c = IsConsistent_fold_of
