use Rattle.safety_consumers.proofs.Covered as lemma
use Rattle.safety_consumers.proofs.laws.confirmed_is_covered.Goals as goal

pub returns : goal.returns
returns c = lemma.confirmed_is_covered
