use Rattle.safety_logs.proofs.CutClauses as lemma
use Rattle.safety_logs.proofs.laws.cuts_are_good.Goals as goal

pub returns : goal.returns
returns c = lemma.cuts_are_good
