use Rattle.safety_marks.proofs.TrueNotices as lemma
use Rattle.safety_marks.proofs.laws.notices_are_true.Goals as goal

pub returns : goal.returns
returns c = lemma.notices_are_true
