use Rattle.safety_marks.proofs.Shown as lemma
use Rattle.safety_marks.proofs.laws.marks_are_shown_as.Goals as goal

pub returns : goal.returns
returns c = lemma.marks_are_shown_as
