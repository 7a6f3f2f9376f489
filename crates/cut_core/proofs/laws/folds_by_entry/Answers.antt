use Rattle.std.proofs.Common.{refl}
use Rattle.cut_core.specs.Agreements.{agreement_from}
use Rattle.cut_core.proofs.AgreeingLemmas.{applied_all_push}
use Rattle.cut_core.proofs.laws.folds_by_entry.Goals as goal

pub returns : goal.returns
returns c = λ first. record { none = refl; more = λ entries entry. applied_all_push (agreement_from first) entries entry }
