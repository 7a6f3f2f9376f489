use Rattle.safety_frame.proofs.Heeding as lemma
use Rattle.safety_frame.proofs.laws.messages_are_heeded.Goals as goal

pub returns : goal.returns
returns c = lemma.messages_are_heeded
