use Rattle.safety_agreement.proofs.KnownLists as lemma
use Rattle.safety_agreement.proofs.laws.known_is_chosen.Goals as goal

pub returns : goal.returns
returns c = lemma.known_is_chosen
