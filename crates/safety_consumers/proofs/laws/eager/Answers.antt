use Rattle.safety_consumers.proofs.Eager as lemma
use Rattle.safety_consumers.proofs.laws.eager.Goals as goal

pub returns : goal.returns
returns c = lemma.eager
