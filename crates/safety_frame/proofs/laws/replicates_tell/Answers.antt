use Rattle.safety_frame.proofs.Replicates as lemma
use Rattle.safety_frame.proofs.laws.replicates_tell.Goals as goal

pub returns : goal.returns
returns c = lemma.replicates_tell
