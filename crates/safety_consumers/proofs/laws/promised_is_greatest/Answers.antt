use Rattle.safety_consumers.proofs.PromisedStates as lemma
use Rattle.safety_consumers.proofs.laws.promised_is_greatest.Goals as goal

pub returns : goal.returns
returns c = lemma.promised_is_greatest
