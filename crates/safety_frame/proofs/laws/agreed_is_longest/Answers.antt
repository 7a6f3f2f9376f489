use Rattle.safety_frame.proofs.Known as lemma
use Rattle.safety_frame.proofs.laws.agreed_is_longest.Goals as goal

pub returns : goal.returns
returns c = lemma.agreed_is_longest
