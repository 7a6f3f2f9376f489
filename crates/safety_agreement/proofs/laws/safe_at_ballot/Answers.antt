use Rattle.safety_agreement.proofs.SafeVotes as lemma
use Rattle.safety_agreement.proofs.laws.safe_at_ballot.Goals as goal

pub returns : goal.returns
returns c = lemma.safe_at_ballot
