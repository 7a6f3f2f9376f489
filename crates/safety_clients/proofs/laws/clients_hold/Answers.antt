use Rattle.safety_clients.proofs.Ends as lemma
use Rattle.safety_clients.proofs.laws.clients_hold.Goals as goal

pub returns : goal.returns
returns c = lemma.clients_hold
