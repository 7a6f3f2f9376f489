use Rattle.safety_consumers.proofs.Told as lemma
use Rattle.safety_consumers.proofs.laws.confirmations_are_counted.Goals as goal

pub returns : goal.returns
returns c = lemma.confirmations_are_counted
