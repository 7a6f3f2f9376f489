use Rattle.safety_consumers.proofs.MarksTell as lemma
use Rattle.safety_consumers.proofs.laws.consumers_marks_tell.Goals as goal

pub returns : goal.returns
returns c = lemma.consumers_marks_tell
