use Rattle.safety_agreement.proofs.Decideds as lemma
use Rattle.safety_agreement.proofs.laws.decideds_are_known.Goals as goal

pub returns : goal.returns
returns c = lemma.decideds_are_known
