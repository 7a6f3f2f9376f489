use Rattle.safety_logs.proofs.Delivered as lemma
use Rattle.safety_logs.proofs.laws.delivers_stand.Goals as goal

pub returns : goal.returns
returns c = lemma.delivers_stand
