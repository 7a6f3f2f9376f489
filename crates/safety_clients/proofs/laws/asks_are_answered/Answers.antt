use Rattle.safety_clients.proofs.Asked as lemma
use Rattle.safety_clients.proofs.laws.asks_are_answered.Goals as goal

pub returns : goal.returns
returns c = lemma.asks_are_answered
