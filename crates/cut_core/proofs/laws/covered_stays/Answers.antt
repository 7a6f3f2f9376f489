use Rattle.cut_core.proofs.AgreeingLemmas.{located_applied_all}
use Rattle.cut_core.proofs.laws.covered_stays.Goals as goal

pub returns : goal.returns
returns c = λ first more position h. located_applied_all first more position h
