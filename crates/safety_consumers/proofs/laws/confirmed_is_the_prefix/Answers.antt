use Rattle.safety_consumers.proofs.Settled as lemma
use Rattle.safety_consumers.proofs.laws.confirmed_is_the_prefix.Goals as goal

pub returns : goal.returns
returns c = lemma.confirmed_is_the_prefix
