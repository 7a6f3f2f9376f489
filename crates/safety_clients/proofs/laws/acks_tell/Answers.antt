use Rattle.safety_clients.proofs.Acks as lemma
use Rattle.safety_clients.proofs.laws.acks_tell.Goals as goal

pub returns : goal.returns
returns c = lemma.acks_tell
