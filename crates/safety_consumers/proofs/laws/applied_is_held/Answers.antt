use Rattle.safety_consumers.proofs.Settled as lemma
use Rattle.safety_consumers.proofs.laws.applied_is_held.Goals as goal

pub returns : goal.returns
returns c = lemma.applied_is_held
