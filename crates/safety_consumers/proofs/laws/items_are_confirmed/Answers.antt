use Rattle.safety_consumers.proofs.Told as lemma
use Rattle.safety_consumers.proofs.laws.items_are_confirmed.Goals as goal

pub returns : goal.returns
returns c = lemma.items_are_confirmed
