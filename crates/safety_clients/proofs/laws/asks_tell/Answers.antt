use Rattle.safety_clients.proofs.Telling as lemma
use Rattle.safety_clients.proofs.laws.asks_tell.Goals as goal

pub returns : goal.returns
returns c = lemma.asks_tell
