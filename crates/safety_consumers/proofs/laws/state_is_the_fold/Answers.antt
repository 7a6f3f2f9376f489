use Rattle.safety_consumers.proofs.Points as lemma
use Rattle.safety_consumers.proofs.laws.state_is_the_fold.Goals as goal

pub returns : goal.returns
returns c = lemma.state_is_the_fold
