use Rattle.safety_marks.proofs.Speculations as lemma
use Rattle.safety_marks.proofs.laws.speculation_holds.Goals as goal

pub returns : goal.returns
returns c = lemma.speculation_holds
