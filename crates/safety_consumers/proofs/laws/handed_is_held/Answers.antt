use Rattle.safety_consumers.proofs.HandedRuns as lemma
use Rattle.safety_consumers.proofs.laws.handed_is_held.Goals as goal

pub returns : goal.returns
returns c = lemma.handed_is_held
