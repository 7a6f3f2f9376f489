use Rattle.safety_consumers.proofs.PromisedMarks as lemma
use Rattle.safety_consumers.proofs.laws.promised_is_marked.Goals as goal

pub returns : goal.returns
returns c = lemma.promised_is_marked
