use Rattle.safety_clients.proofs.Fates as lemma
use Rattle.safety_clients.proofs.laws.fates_tell.Goals as goal

pub returns : goal.returns
returns c = lemma.fates_tell
