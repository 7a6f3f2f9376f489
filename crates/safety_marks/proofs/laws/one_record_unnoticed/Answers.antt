use Rattle.safety_marks.proofs.Speculations as lemma
use Rattle.safety_marks.proofs.laws.one_record_unnoticed.Goals as goal

pub returns : goal.returns
returns c = lemma.one_record_unnoticed
