use Rattle.safety_logs.proofs.TrueCuts as lemma
use Rattle.safety_logs.proofs.laws.cuts_are_true.Goals as goal

pub returns : goal.returns
returns c = lemma.cuts_are_true
