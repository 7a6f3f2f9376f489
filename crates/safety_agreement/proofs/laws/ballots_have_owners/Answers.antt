use Rattle.safety_agreement.proofs.Owners as lemma
use Rattle.safety_agreement.proofs.laws.ballots_have_owners.Goals as goal

pub returns : goal.returns
returns c = lemma.ballots_have_owners
