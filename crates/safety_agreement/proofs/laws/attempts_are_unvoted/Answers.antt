use Rattle.safety_agreement.proofs.Attempts as lemma
use Rattle.safety_agreement.proofs.laws.attempts_are_unvoted.Goals as goal

pub returns : goal.returns
returns c = lemma.attempts_are_unvoted
