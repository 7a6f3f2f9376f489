use Rattle.safety_agreement.proofs.Attempts as lemma
use Rattle.safety_agreement.proofs.laws.attempts_have_promises.Goals as goal

pub returns : goal.returns
returns c = lemma.attempts_have_promises
