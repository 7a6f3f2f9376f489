use Rattle.safety_marks.proofs.MarksTell as lemma
use Rattle.safety_marks.proofs.laws.marks_tell.Goals as goal

pub returns : goal.returns
returns c = lemma.marks_tell
