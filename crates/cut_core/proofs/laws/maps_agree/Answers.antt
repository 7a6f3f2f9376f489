use Rattle.std.proofs.Common.{arith}
use Rattle.fix_ante.specs.Windows.{first_of}
use Rattle.cut_core.specs.Agreements.{agreement_from}
use Rattle.cut_core.specs.Fold.{fold_of}
use Rattle.cut_core.proofs.Sound.{IsSound_fold_of}
use Rattle.cut_core.proofs.AgreeingLemmas.{mapped_applied_all, slots_applied_all}
use Rattle.cut_core.proofs.laws.maps_agree.Goals as goal

pub returns : goal.returns
returns c = λ rounds rows entries more position some most table few valid later within below.
    let before = fold_of (first_of rounds rows) entries in
    let slots = slots_applied_all (agreement_from (first_of rounds rows)) entries in
    mapped_applied_all before more position (IsSound_fold_of rounds rows entries some most table (omega arith) valid) (omega (arith, slots)) later within below
