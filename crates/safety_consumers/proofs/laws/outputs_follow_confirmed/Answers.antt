use Rattle.safety_consumers.proofs.Points as lemma
use Rattle.safety_consumers.proofs.laws.outputs_follow_confirmed.Goals as goal

pub returns : goal.returns
returns c = lemma.outputs_follow_confirmed
