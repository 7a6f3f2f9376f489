use Rattle.safety_agreement.proofs.Votes as lemma
use Rattle.safety_agreement.proofs.laws.owners_voted.Goals as goal

pub returns : goal.returns
returns c = lemma.owners_voted
