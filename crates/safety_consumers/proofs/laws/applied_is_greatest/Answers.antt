use Rattle.safety_consumers.proofs.AppliedGreatest as lemma
use Rattle.safety_consumers.proofs.laws.applied_is_greatest.Goals as goal

pub returns : goal.returns
returns c = lemma.applied_is_greatest
