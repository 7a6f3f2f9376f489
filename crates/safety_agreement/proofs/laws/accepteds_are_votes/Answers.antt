use Rattle.safety_agreement.proofs.Votes as lemma
use Rattle.safety_agreement.proofs.laws.accepteds_are_votes.Goals as goal

pub returns : goal.returns
returns c = lemma.accepteds_are_votes
