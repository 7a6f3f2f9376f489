use Rattle.safety_frame.proofs.Known as lemma
use Rattle.safety_frame.proofs.laws.known_folds_hold.Goals as goal

pub returns : goal.returns
returns c = lemma.known_folds_hold
