use Rattle.safety_logs.proofs.Wishes as lemma
use Rattle.safety_logs.proofs.laws.wishes_are_good.Goals as goal

pub returns : goal.returns
returns c = lemma.wishes_are_good
