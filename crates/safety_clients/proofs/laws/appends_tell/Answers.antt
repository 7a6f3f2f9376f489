use Rattle.safety_clients.proofs.Telling as lemma
use Rattle.safety_clients.proofs.laws.appends_tell.Goals as goal

pub returns : goal.returns
returns c = lemma.appends_tell
