use Rattle.safety_marks.proofs.Speculations as lemma
use Rattle.safety_marks.proofs.laws.speculation_agrees.Goals as goal

pub returns : goal.returns
returns c = lemma.speculation_agrees
