use Rattle.safety_marks.proofs.Shown as lemma
use Rattle.safety_marks.proofs.laws.notices_are_removals.Goals as goal

pub returns : goal.returns
returns c = lemma.notices_are_removals
