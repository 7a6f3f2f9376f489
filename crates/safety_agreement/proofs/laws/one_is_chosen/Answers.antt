use Rattle.safety_agreement.proofs.Chosen as lemma
use Rattle.safety_agreement.proofs.laws.one_is_chosen.Goals as goal

pub returns : goal.returns
returns c = lemma.one_is_chosen
