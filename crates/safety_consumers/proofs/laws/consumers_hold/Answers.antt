use Rattle.safety_consumers.proofs.Points as lemma
use Rattle.safety_consumers.proofs.laws.consumers_hold.Goals as goal

pub returns : goal.returns
returns c = lemma.consumers_hold
