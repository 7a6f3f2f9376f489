use Rattle.safety_agreement.proofs.OneValue as lemma
use Rattle.safety_agreement.proofs.laws.one_value_per_ballot.Goals as goal

pub returns : goal.returns
returns c = lemma.one_value_per_ballot
