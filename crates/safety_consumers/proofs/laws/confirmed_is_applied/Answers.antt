use Rattle.safety_consumers.proofs.Told as lemma
use Rattle.safety_consumers.proofs.laws.confirmed_is_applied.Goals as goal

pub returns : goal.returns
returns c = lemma.confirmed_is_applied
