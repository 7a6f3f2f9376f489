use Rattle.safety_logs.proofs.Told as lemma
use Rattle.safety_logs.proofs.laws.replicateds_are_common.Goals as goal

pub returns : goal.returns
returns c = lemma.replicateds_are_common
