use Rattle.safety_agreement.proofs.Promises as lemma
use Rattle.safety_agreement.proofs.laws.promises_tell.Goals as goal

pub returns : goal.returns
returns c = lemma.promises_tell
