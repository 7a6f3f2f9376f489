use Rattle.safety_logs.proofs.Delivered as lemma
use Rattle.safety_logs.proofs.laws.delivers_tell.Goals as goal

pub returns : goal.returns
returns c = lemma.delivers_tell
