use Rattle.safety_marks.proofs.Speculations as lemma
use Rattle.safety_marks.proofs.laws.one_log.Goals as goal

pub returns : goal.returns
returns c = lemma.one_log
