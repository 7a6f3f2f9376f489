use Rattle.safety_consumers.proofs.Told as lemma
use Rattle.safety_consumers.proofs.laws.applied_is_the_marks.Goals as goal

pub returns : goal.returns
returns c = lemma.applied_is_the_marks
