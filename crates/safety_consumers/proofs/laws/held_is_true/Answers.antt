use Rattle.safety_consumers.proofs.Settled as lemma
use Rattle.safety_consumers.proofs.laws.held_is_true.Goals as goal

pub returns : goal.returns
returns c = lemma.held_is_true
