use Rattle.safety_truth.proofs.Truth as lemma
use Rattle.safety_truth.proofs.laws.truthful.Goals as goal

pub returns : goal.returns
returns c = lemma.truthful
