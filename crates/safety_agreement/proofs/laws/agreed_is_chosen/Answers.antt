use Rattle.safety_agreement.proofs.KnownLists as lemma
use Rattle.safety_agreement.proofs.laws.agreed_is_chosen.Goals as goal

pub returns : goal.returns
returns c = lemma.agreed_is_chosen
