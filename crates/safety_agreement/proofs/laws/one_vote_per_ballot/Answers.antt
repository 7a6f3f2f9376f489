use Rattle.safety_agreement.proofs.Votes as lemma
use Rattle.safety_agreement.proofs.laws.one_vote_per_ballot.Goals as goal

pub returns : goal.returns
returns c = lemma.one_vote_per_ballot
