use Rattle.safety_frame.proofs.Replicates as lemma
use Rattle.safety_logs.proofs.laws.logs_tell.Goals as goal

pub returns : goal.returns
returns c = lemma.logs_tell
